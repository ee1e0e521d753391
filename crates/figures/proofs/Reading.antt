-- Digits read one by one, and the figure that they are.
use Rattle.std.proofs.Common.{◌≡◌, ℕ, ◌+◌, ◌-◌, ◌*◌, ◌^◌, ◌<◌, ◌≤◌, Bool, true, false, not, ◌&&◌, ◌==◌, nat_lt, List, [], ◌∷◌, length, get_or, Some, IfOk, Err, decimal, Option, Result, sym, refl, ap, ◌∙◌, ⊎_elim, arith}
use Rattle.std.specs.Option.{ok_or}
use Rattle.std.specs.Char.{is_ascii_digit, digit_value}
use Rattle.std.specs.Str.{all_ascii_digits}
use Rattle.std.specs.Str.Parse.{digits_value, digits_value_after}
use Rattle.std.proofs.lemmas.Fmt.{decimal-digits_value}
use Rattle.std.proofs.lemmas.Str.Parse.{IsNumeralModel, numerals_by_value, tells_all_ascii_digits}
use Rattle.std.proofs.lemmas.Bool.{cases_lt, lt-ltb, le-ltb, and_right}
use Rattle.std.proofs.lemmas.Bool.Decides.{nat_tests}
use Rattle.std.specs.List.{AllPass, Any, fold, list_all}
use Rattle.std.proofs.lemmas.List.Elements.{All-head, All-tail}
use Rattle.std.proofs.lemmas.List.Folds.{list_all_at}
use Rattle.std.proofs.lemmas.List.Sums.{list_all-from_AllPass}
use Rattle.figures.specs.declared.refusal.Refusal.{Refusal}
use Rattle.figures.specs.declared.refusal.Refusal.TheVariants.{NotAFigure, OutOfRange}
use Rattle.figures.specs.Figure.{is_figure, figure, fitting, appended}

digit_is : (c : ℕ) → is_ascii_digit c ≡ true → digit_value c ≡ c - 48
digit_is c e = grind (arith, nat_tests)

fitting_more : (n d : ℕ) → appended (fitting n) d ≡ fitting (n * 10 + d)
fitting_more n d =
    ⊎_elim
    (λ (h : n < 2 ^ 64). let e = lt-ltb n (2 ^ 64) h in rw e refl)
    (λ (h : 2 ^ 64 ≤ n).
    let e = le-ltb n (2 ^ 64) h in
    let f = le-ltb (n * 10 + d) (2 ^ 64) (omega arith) in
    rw (e, f) refl)
    (cases_lt n (2 ^ 64))

-- the number of digits, one by one
folded : (n : ℕ) (bs : List ℕ) → AllPass is_ascii_digit bs → fold (λ v b. appended v (b - 48)) (fitting n) bs ≡ fitting (digits_value_after 10 n bs)
folded n [] all = refl
folded n (b ∷ bs) all =
    let d = digit_is b (All-head (λ c. is_ascii_digit c ≡ true) b bs all) in
    rw d (ap (λ v. fold (λ w c. appended w (c - 48)) v bs) (fitting_more n (b - 48)) ∙ folded (n * 10 + (b - 48)) bs (All-tail (λ c. is_ascii_digit c ≡ true) b bs all))

-- two words for one test
tested : (bs : List ℕ) → all_ascii_digits bs ≡ list_all is_ascii_digit bs
tested [] = refl
tested (b ∷ bs) = ap (λ t. is_ascii_digit b && t) (tested bs)

-- a byte that is no digit
pub no_figure : (bs : List ℕ) → Any (λ b. is_ascii_digit b ≡ false) bs → Err NotAFigure ≡ figure bs
no_figure bs h =
    let a = tested bs ∙ list_all_at is_ascii_digit bs h.0 h.1 h.2 (ap is_ascii_digit h.3 ∙ h.4) in
    let s : is_figure bs ≡ false = and_right _ (all_ascii_digits bs) a in
    rw s refl

own : IsNumeralModel (λ ds. all_ascii_digits ds ≡ true) (digits_value 10)
own = numerals_by_value (λ ds. all_ascii_digits ds ≡ true) tells_all_ascii_digits

-- `is_figure`, where the bytes are some, and the first is no 0 unless it is the only one
spelled_is : (n c : ℕ) (b : Bool) → 0 < n → (c ≡ 48 → n ≡ 1) → (nat_lt 0 n && not (c == 48 && nat_lt 1 n) && b) ≡ b
spelled_is n c b some first = grind (arith, nat_tests)

-- digits alone
pub a_figure : (bs : List ℕ) (v : Option ℕ) (r : Result ℕ Refusal) → 0 < length bs → (get_or bs 0 0 ≡ 48 → length bs ≡ 1) → AllPass is_ascii_digit bs → v ≡ fold (λ v b. appended v (b - 48)) (Some 0) bs → r ≡ ok_or v OutOfRange → (r ≡ figure bs) × IfOk r (λ n. bs ≡ decimal n)
a_figure bs v r some first all e f =
    let a = tested bs ∙ list_all-from_AllPass is_ascii_digit bs all in
    let s = spelled_is (length bs) (get_or bs 0 0) (all_ascii_digits bs) some first in
    let n = folded 0 bs all in
    ⊎_elim
    (λ (h : digits_value 10 bs < 2 ^ 64).
    let t = lt-ltb (digits_value 10 bs) (2 ^ 64) h in
    rw (f, e, n, s, a, t) (refl, sym (decimal-digits_value own bs a some first h)))
    (λ (h : 2 ^ 64 ≤ digits_value 10 bs). let t = le-ltb (digits_value 10 bs) (2 ^ 64) h in rw (f, e, n, s, a, t) (refl, tt))
    (cases_lt (digits_value 10 bs) (2 ^ 64))
