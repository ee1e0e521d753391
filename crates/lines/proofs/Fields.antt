-- What is asked of a field, by what it holds.
use Rattle.std.proofs.Common.{◌≡◌, ℕ, ◌^◌, ◌<◌, ◌≤◌, Bool, true, false, cond, not, ◌&&◌, eqb, ltb, leb, ◌⊎◌, List, [], ◌∷◌, length, get_or, is_some, Some, None, Ok, Err, decimal, Option, Result, sym, refl, ap, ◌∙◌, subst, ⊎_elim, arith}
use lib.Utf8.{encode}
use Rattle.std.specs.Str.Parse.{digits_value}
use Rattle.std.specs.Char.{len_utf8}
use Rattle.std.specs.Str.{all_ascii_digits}
use Rattle.std.specs.List.{list_all}
use Rattle.std.proofs.lemmas.List.Recursion.{same_from_clauses}
use Rattle.std.proofs.lemmas.Fmt.{decimal_is_IsNumeral, decimal_nonempty, decimal_digit, digits_decimal, first_decimal}
use Rattle.std.proofs.lemmas.List.{append-nil, nil_from_length}
use Rattle.std.proofs.lemmas.Str.Parse.{IsNumeralModel, numerals_by_value, tells_all_ascii_digits}
use Rattle.std.proofs.lemmas.Bool.{cases_Bool, cases_lt, cases_eq, cond_both, lt-ltb, ltb-true, ne_eqb, and_parts, and_left, leb-true, le-leb}
use Rattle.std.proofs.lemmas.Str.{encode_ascii, length-encode, len_utf8_bounds, char_from_byte}
use Rattle.std.proofs.lemmas.Bool.Decides.{nat_tests}
use Rattle.units.specs.Ranges.{form, span, admits, is_figure}
use Rattle.units.specs.declared.ranges.Kind.{Kind}
use Rattle.units.specs.declared.ranges.Kind.TheVariants.{Figure, Name, Pool, OtherPool}
use Rattle.units.specs.declared.ranges.Letter.{Letter}
use Rattle.units.specs.declared.ranges.Letter.TheVariants.{Header}
use Rattle.figures.specs.Figure.{is_figure as a_figure, figure}
use Rattle.figures.specs.declared.refusal.Refusal as figures
use Rattle.figures.specs.declared.refusal.Refusal.TheVariants.{OutOfRange}
use Rattle.records.specs.Pools.{pool_of}
use Rattle.rows.specs.Rows.{spelled}
use Rattle.rows.specs.declared.field.Field.{Field}
use Rattle.rows.specs.declared.field.Field.TheVariants as held
use Rattle.lines.specs.declared.fault.Fault.{Fault}
use Rattle.lines.specs.declared.fault.Refusal.{Refusal}
use Rattle.lines.specs.declared.fault.Refusal.TheVariants as refusal
use Rattle.lines.specs.declared.fault.Refusal.TheVariants.{UnknownPool}
use Rattle.lines.specs.Answers.{told, at_field}
use Rattle.lines.specs.Questions.{name_byte, name_bytes, a_name, a_pool, in_field, refused, asks, holds, Fits, Compared}

own : IsNumeralModel (λ ds. all_ascii_digits ds ≡ true) (digits_value 10)
own = numerals_by_value (λ ds. all_ascii_digits ds ≡ true) tells_all_ascii_digits

-- what is written of a number is a figure, and reads as it
pub value_of : (n : ℕ) → n < 2 ^ 64 → digits_value 10 (decimal n) ≡ n
value_of n h = (decimal_is_IsNumeral n h).1

pub written_figure : (n : ℕ) → n < 2 ^ 64 → a_figure (decimal n) ≡ true
written_figure n h =
    let d = digits_decimal own n h in
    let s = decimal_nonempty n h in
    ⊎_elim
    (λ (z : n < 1).
    let e : n ≡ 0 = omega arith in
    ap (λ m. a_figure (decimal m)) e ∙ ap a_figure (decimal_digit 0 (omega arith)))
    (λ (p : 1 ≤ n).
    let f = first_decimal n (omega arith) h in
    let a = lt-ltb 0 (length (decimal n)) s in
    let b = ne_eqb (get_or (decimal n) 0 0) 48 (λ e. omega arith) in
    rw (a, b, d) refl)
    (cases_lt n 1)

-- no range reaches 2 ^ 64
abbrev pub below : Kind → Bool
below κ = ltb (span κ).1 (2 ^ 64)

abbrev pub all_below : List Kind → Bool
all_below [] = true
all_below (κ ∷ κs) = below κ && all_below κs

pub form_below : (l : Letter) → all_below (form l) ≡ true
form_below Header = refl
form_below _ = refl

pub admits_below : (κ : Kind) (n : ℕ) → (span κ).1 < 2 ^ 64 → admits κ n ≡ true → n < 2 ^ 64
admits_below κ n b e =
    let h = leb-true n (span κ).1 (and_parts (leb (span κ).0 n) (leb n (span κ).1) e).1 in
    omega arith

-- a letter that names a pool is one byte
pool_above : (c : ℕ) → 128 ≤ c → is_some (pool_of c) ≡ false
pool_above c h = grind (arith, nat_tests)

pub pool_ascii : (c : ℕ) → is_some (pool_of c) ≡ true → c < 128
pool_ascii c e = grind (arith, nat_tests)

pub pool_encoded : (c : ℕ) → a_pool (encode c) ≡ is_some (pool_of c)
pool_encoded c =
    ⊎_elim
    (λ (h : c < 128). ap a_pool (encode_ascii c h))
    (λ (h : 128 ≤ c).
    let p = pool_above c h in
    let w : 1 < len_utf8 c = cond_both (ltb c 128) 1 (cond (ltb c 2048) 2 (cond (ltb c 65536) 3 4)) (λ n. 1 < n) (λ e. absurd (omega (arith, ltb-true c 128 e))) (λ e. cond_both (ltb c 2048) 2 (cond (ltb c 65536) 3 4) (λ n. 1 < n) (λ f. omega arith) (λ f. cond_both (ltb c 65536) 3 4 (λ n. 1 < n) (λ g. omega arith) (λ g. omega arith))) in
    let l = length-encode c in
    and_left (eqb (length (encode c)) 1) _ (ne_eqb (length (encode c)) 1 (λ e. omega arith)) ∙ sym p)
    (cases_lt c 128)

-- the first byte of a letter that is one byte tells it from all others
pub same_first : (p q : ℕ) → p < 128 → eqb (get_or (encode p) 0 0) (get_or (encode q) 0 0) ≡ eqb p q
same_first p q h =
    let first : get_or (encode p) 0 0 ≡ p = ap (λ xs. get_or xs 0 0) (encode_ascii p h) in
    ap (λ n. eqb n (get_or (encode q) 0 0)) first
    ∙ ⊎_elim
    (λ (e : p ≡ q). ap (λ c. eqb p (get_or (encode c) 0 0)) (sym e) ∙ ap (eqb p) first ∙ ap (eqb p) e)
    (λ (e : p ≡ q → ⊥).
    let some = (len_utf8_bounds q).0 in
    let l = length-encode q in
    let other : p ≡ get_or (encode q) 0 0 → ⊥ = λ s. e (s ∙ sym (char_from_byte (encode q) [] q (sym (append-nil (encode q))) (omega arith) (omega arith))) in
    ne_eqb p (get_or (encode q) 0 0) other ∙ sym (ne_eqb p q e))
    (cases_eq p q)

-- a name's bytes
pub name_of_bytes : (bs : List ℕ) (b : Bool) → 1 ≤ length bs → length bs ≤ 24 → b ≡ list_all name_byte bs → b ≡ a_name bs
name_of_bytes bs b some few e =
    let l = lt-ltb 0 (length bs) (omega arith) in
    let u = le-leb (length bs) 24 few in
    e ∙ same_from_clauses (list_all name_byte) name_bytes (λ x r. name_byte x && r) refl (λ _ _. refl) (λ _ _. refl) bs ∙ (rw (l, u) refl)

-- what a field of a figure's kind is asked
pub figure_asks : (κ : Kind) (f before : List ℕ) → is_figure κ ≡ true → asks κ f before ≡ refused (in_field κ (figure f))
figure_asks (Figure m low high) f before e = refl
figure_asks Name f before e = cc
figure_asks Pool f before e = cc
figure_asks OtherPool f before e = cc

-- what is read of a number that was written
figure_written : (n : ℕ) → n < 2 ^ 64 → figure (decimal n) ≡ Ok n
figure_written n h = let l = lt-ltb n (2 ^ 64) h in rw (written_figure n h, value_of n h, l) refl

-- a figure that is read
figure_read : (f : List ℕ) (n : ℕ) → figure f ≡ Ok n → (a_figure f ≡ true) × (digits_value 10 f ≡ n)
figure_read f n e =
    ⊎_elim
    (λ (t : a_figure f ≡ true).
    ⊎_elim
    (λ (l : ltb (digits_value 10 f) (2 ^ 64) ≡ true).
    let same = rw (t, l) at e in
    (t, cc))
    (λ (l : ltb (digits_value 10 f) (2 ^ 64) ≡ false).
    let bad = rw (t, l) at e in
    cc)
    (cases_Bool (ltb (digits_value 10 f) (2 ^ 64))))
    (λ (t : a_figure f ≡ false).
    let bad = rw t at e in
    cc)
    (cases_Bool (a_figure f))

-- and taken by its field
field_takes : (κ : Kind) (r : Result ℕ figures.Refusal) (n : ℕ) → in_field κ r ≡ Ok n → (r ≡ Ok n) × (admits κ n ≡ true)
field_takes κ (Ok m) n e =
    ⊎_elim
    (λ (a : admits κ m ≡ true).
    let same = rw a at e in
    (cc, cc))
    (λ (a : admits κ m ≡ false).
    let bad = rw a at e in
    cc)
    (cases_Bool (admits κ m))
field_takes κ (Err d) n e = cc

pub figure_taken : (κ : Kind) (f : List ℕ) (n : ℕ) → in_field κ (figure f) ≡ Ok n → (a_figure f ≡ true) × (admits κ (digits_value 10 f) ≡ true) × (n ≡ digits_value 10 f)
figure_taken κ f n e =
    let t = field_takes κ (figure f) n e in
    let r = figure_read f n t.0 in
    (r.0, ap (admits κ) r.1 ∙ t.1, sym r.1)

-- no refusal
not_refused : (r : Result ℕ figures.Refusal) → refused r ≡ None → (n : ℕ) × (r ≡ Ok n)
not_refused (Ok n) e = (n, refl)
not_refused (Err d) e = cc

pub figure_passed : (κ : Kind) (f before : List ℕ) → is_figure κ ≡ true → asks κ f before ≡ None → (a_figure f ≡ true) × (admits κ (digits_value 10 f) ≡ true)
figure_passed κ f before is e =
    let p = not_refused (in_field κ (figure f)) (sym (figure_asks κ f before is) ∙ e) in
    let t = figure_taken κ f p.0 p.1 in
    (t.0, t.1)

-- a question that is not answered no
pub cond_passed : (b : Bool) (e : Refusal) → cond b None (Some e) ≡ None → b ≡ true
cond_passed true e p = refl
cond_passed false e p = cc

other_letter : (c q : ℕ) → (is_some (pool_of c) && not (eqb c q)) ≡ (a_pool (encode c) && not (eqb (get_or (encode c) 0 0) (get_or (encode q) 0 0)))
other_letter c q = grind (arith, nat_tests, pool_encoded, same_first, pool_ascii)

other_compared : (c : ℕ) (before : Field) → Fits Pool before → (is_some (pool_of c) && not (holds c before)) ≡ (a_pool (encode c) && not (eqb (get_or (encode c) 0 0) (get_or (spelled before) 0 0)))
other_compared c (held.Text t) fit = cc
other_compared c (held.Letter q) fit = other_letter c q
other_compared c (held.Figure n) fit = let e = fit.0 in cc
other_compared c (held.Minus n) fit = absurd fit

-- what is told of a field
abbrev pub telling : Bool → ℕ → Refusal → Result (Unit {0}) Fault
telling b k e = cond b (Ok (tt {0})) (Err (record { field = k; refusal = e }))

told_by : (b : Bool) (k : ℕ) (e : Refusal) → telling b k e ≡ told (tt {0}) (at_field k (cond b None (Some e)))
told_by true k e = refl
told_by false k e = refl

refused_field : (κ : Kind) (n : ℕ) → refused (in_field κ (Ok n)) ≡ cond (admits κ n) None (Some (refusal.Figure OutOfRange))
refused_field κ n = ⊎_elim (λ (a : admits κ n ≡ true). rw a refl) (λ (a : admits κ n ≡ false). rw a refl) (cases_Bool (admits κ n))

module _ (κ : Kind) (k : ℕ) where
  told_as : (f before : List ℕ) (b : Bool) (e : Refusal) → asks κ f before ≡ cond b None (Some e) → telling b k e ≡ told (tt {0}) (at_field k (asks κ f before))
  told_as f before b e is = told_by b k e ∙ ap (λ o. told (tt {0}) (at_field k o)) (sym is)

  pub told_figure : (n : ℕ) (before : List ℕ) → Fits κ (held.Figure n) → telling (admits κ n) k (refusal.Figure OutOfRange) ≡ told (tt {0}) (at_field k (asks κ (decimal n) before))
  told_figure n before fit =
      told_as (decimal n) before (admits κ n) (refusal.Figure OutOfRange) (figure_asks κ (decimal n) before fit.0 ∙ ap (λ r. refused (in_field κ r)) (figure_written n fit.1) ∙ refused_field κ n)

  pub told_pool : (c : ℕ) (before : List ℕ) → (κ ≡ Pool) ⊎ (κ ≡ OtherPool) → (κ ≡ OtherPool → ⊥) → telling (is_some (pool_of c)) k UnknownPool ≡ told (tt {0}) (at_field k (asks κ (encode c) before))
  told_pool c before e first =
      let pool = ⊎_elim (λ (p : κ ≡ Pool). p) (λ (p : κ ≡ OtherPool). absurd (first p)) e in
      told_as (encode c) before (is_some (pool_of c)) UnknownPool (ap (λ κ. asks κ (encode c) before) pool ∙ ap (λ b. cond b None (Some UnknownPool)) (pool_encoded c))

  pub told_other : (c : ℕ) (before : Field) → κ ≡ OtherPool → Compared κ before → telling (is_some (pool_of c) && not (holds c before)) k UnknownPool ≡ told (tt {0}) (at_field k (asks κ (encode c) (spelled before)))
  told_other c before e compared =
      told_as (encode c) (spelled before) (is_some (pool_of c) && not (holds c before)) UnknownPool (ap (λ κ. asks κ (encode c) (spelled before)) e ∙ ap (λ b. cond b None (Some UnknownPool)) (sym (other_compared c before (subst (λ κ. Compared κ before) e compared))))

-- one byte below 128 is a letter
pub one_byte : (bytes : List ℕ) → length bytes ≡ 1 → bytes ≡ get_or bytes 0 0 ∷ []
one_byte [] h = absurd (omega arith)
one_byte (b ∷ bs) h = ap (λ xs. b ∷ xs) (nil_from_length bs (omega arith))

pub one_letter : (bytes : List ℕ) → length bytes ≡ 1 → get_or bytes 0 0 ≤ 127 → encode (get_or bytes 0 0) ≡ bytes
one_letter bytes h u = encode_ascii (get_or bytes 0 0) (omega arith) ∙ sym (one_byte bytes h)

-- an answer that refuses, and one that does not
module _ {E : Type 0} where
  pub told_refused : (o : Option E) (e : E) → Err e ≡ told (tt {0}) o → o ≡ Some e
  told_refused None e is = cc
  told_refused (Some d) e is = cc

  pub told_nothing : (o : Option E) (x : Unit {0}) → Ok x ≡ told (tt {0}) o → o ≡ None
  told_nothing None x is = refl
  told_nothing (Some d) x is = cc
