-- There and back: fields by their contents, and contents by their fields.
use Rattle.std.proofs.Common.{◌≡◌, ℕ, zero, suc, ◌+◌, ◌-◌, ◌^◌, ◌<◌, ◌≤◌, true, false, not, Bool, ◌&&◌, eqb, ltb, leb, ◌⊎◌, List, [], ◌∷◌, ◌++◌, length, get_or, take, drop, is_some, is_ok, Some, None, Ok, decimal, Option, Result, sym, refl, ap, ◌∙◌, subst, inl, inr, ⊎_elim, arith}
use lib.Utf8.{encode}
use Rattle.std.specs.Str.Parse.{digits_value}
use Rattle.std.specs.List.{AllByRecursion}
use Rattle.std.specs.Str.{all_ascii_digits}
use Rattle.std.proofs.lemmas.Fmt.{decimal-digits_value}
use Rattle.std.proofs.ByRecursion.{All-from_get_or}
use Rattle.std.proofs.lemmas.List.{drop_more, drop_all, take_at}
use Rattle.std.proofs.lemmas.Str.Parse.{IsNumeralModel, numerals_by_value, tells_all_ascii_digits, not_in_digits}
use Rattle.std.proofs.lemmas.Bool.{cases_eq, cond-true, eqb-true, eqb-false, ltb-true, and_parts, not-true}
use Rattle.std.proofs.lemmas.Bool.Decides.{nat_tests}
use Rattle.units.specs.Ranges.{form, count, kind, span, admits}
use Rattle.units.specs.declared.ranges.Kind.{Kind}
use Rattle.units.specs.declared.ranges.Kind.TheVariants.{Figure, Name, Pool, OtherPool}
use Rattle.units.specs.declared.ranges.Letter.{Letter}
use Rattle.units.specs.declared.ranges.Letter.TheVariants.{Header}
use Rattle.figures.specs.Figure.{is_figure as a_figure}
use Rattle.records.specs.Pools.{pool_of}
use Rattle.book.specs.declared.figures.Figures.{Figures}
use Rattle.book.specs.declared.figures.Posting.{Posting}
use Rattle.book.specs.declared.figures.Posting.TheVariants as posting
use Rattle.rows.specs.Rows.{parted, joined}
use Rattle.rows.proofs.Parts.{parted_joined, joined_parted}
use Rattle.lines.specs.declared.fault.Fault.{Fault}
use Rattle.lines.specs.Letters.{field, byte_of, letter_at, letter_of}
use Rattle.lines.specs.Answers.{told, or_else}
use Rattle.lines.specs.Lines.{Contents, header, customer, cost, grant, transfer, cost_letter, letter, held, fields, written, made, faults, fault_in, line_of, read_fields, ranged, Writes}
use Rattle.lines.specs.Questions.{name_byte, name_bytes, a_name, a_pool, asks, asked}
use Rattle.lines.specs.Writing.{WritesFields}
use Rattle.lines.specs.Reading.{fields_from}
use Rattle.lines.proofs.Fields.{value_of, below, all_below, form_below, admits_below, pool_ascii, one_byte, one_letter}
use Rattle.lines.proofs.Holding.{asks_passes, letter_first}
use Rattle.lines.proofs.Walking.{clean_from, read_through, kind_is}

own : IsNumeralModel (λ ds. all_ascii_digits ds ≡ true) (digits_value 10)
own = numerals_by_value (λ ds. all_ascii_digits ds ≡ true) tells_all_ascii_digits

-- what a figure's bytes are
module _ (f : List ℕ) (t : a_figure f ≡ true) where
  figure_digits : all_ascii_digits f ≡ true
  figure_digits = grind (arith, nat_tests)

  figure_some : 0 < length f
  figure_some = grind (arith, nat_tests)

  figure_zero : get_or f 0 0 ≡ 48 → length f ≡ 1
  figure_zero z = grind (arith, nat_tests)

  figure_back : digits_value 10 f < 2 ^ 64 → decimal (digits_value 10 f) ≡ f
  figure_back h = decimal-digits_value own f figure_digits figure_some figure_zero h

pool_back : (f : List ℕ) → a_pool f ≡ true → encode (get_or f 0 0) ≡ f
pool_back f p =
    let parts = and_parts (eqb (length f) 1) (is_some (pool_of (get_or f 0 0))) p in
    let h = pool_ascii (get_or f 0 0) parts.1 in
    one_letter f (eqb-true (length f) 1 parts.0) (omega arith)

letter_byte : (b : ℕ) (l : Letter) → letter_at b ≡ Some l → byte_of l ≡ b
letter_byte b Header e = grind (arith, nat_tests)
letter_byte b _ e = grind (arith, nat_tests)

letter_back : (f : List ℕ) (l : Letter) → letter_of f ≡ Some l → byte_of l ∷ [] ≡ f
letter_back f l e = grind (arith, nat_tests, letter_byte, one_byte)

-- fields from a number on, one by one
fields_from_is : (fs : List (List ℕ)) (n k : ℕ) → 1 ≤ k → k - 1 + n ≡ length fs → fields_from n k fs ≡ drop (k - 1) fs
fields_from_is fs zero k a e = sym (drop_all (k - 1) fs (omega arith))
fields_from_is fs (suc n) k a e =
    let j : k + 1 - 1 ≡ k - 1 + 1 = omega arith in
    ap (λ gs. field fs k ∷ gs) (fields_from_is fs n (k + 1) (omega arith) (omega arith) ∙ ap (λ j. drop j fs) j)
    ∙ sym (drop_more fs (k - 1) [] (omega arith))

-- the fields after the letter
abbrev after : Letter → List (List ℕ) → List (List ℕ)
after l fs = fields_from (length (form l)) 2 fs

pub after_is : (l : Letter) (fs : List (List ℕ)) → length fs ≡ count l → after l fs ≡ drop 1 fs
after_is l fs n = fields_from_is fs (length (form l)) 2 (omega arith) (omega arith)

all_fields : (fs : List (List ℕ)) → 1 ≤ length fs → field fs 1 ∷ drop 1 fs ≡ fs
all_fields fs h = sym (drop_more fs 0 [] h)

-- fields pass, one after the other
abbrev Passing : List Kind → List ℕ → List (List ℕ) → Type 0
Passing [] before fs = Unit {0}
Passing (κ ∷ κs) before [] = Unit {0}
Passing (κ ∷ κs) before (f ∷ fs) = (asks κ f before ≡ None) × Passing κs f fs

passing_from : (fs : List (List ℕ)) (κs : List Kind) (k : ℕ) → 2 ≤ k → ((i : ℕ) → i < length κs → asks (get_or κs i Name) (field fs (k + i)) (field fs (k + i - 1)) ≡ None) → Passing κs (field fs (k - 1)) (fields_from (length κs) k fs)
passing_from fs [] k a clean = tt
passing_from fs (κ ∷ κs) k a clean =
    let j : k + 0 ≡ k = omega arith in
    let b : k + 1 - 1 ≡ k = omega arith in (
      subst (λ j. asks κ (field fs j) (field fs (j - 1)) ≡ None) j (clean 0 (omega arith)),
      subst (λ j. Passing κs (field fs j) (fields_from (length κs) (k + 1) fs)) b (passing_from fs κs (k + 1) (omega arith) (λ i h.
          let e : k + suc i ≡ k + 1 + i = omega arith in
          subst (λ j. asks (get_or κs i Name) (field fs j) (field fs (j - 1)) ≡ None) e (clean (suc i) (omega arith)))),
    )

passing : (l : Letter) (fs : List (List ℕ)) → ((k : ℕ) → 2 ≤ k → k ≤ count l → asked l fs k ≡ None) → Passing (form l) (field fs 1) (after l fs)
passing l fs clean =
    passing_from fs (form l) 2 (omega arith) (λ i h.
    subst (λ κ. asks κ (field fs (2 + i)) (field fs (2 + i - 1)) ≡ None) (kind_is l i (2 + i) (omega arith)) (clean (2 + i) (omega arith) (omega arith)))

-- what is written of a field that was read
abbrev again : Kind → List ℕ → List ℕ
again (Figure m low high) f = decimal (digits_value 10 f)
again Name f = f
again Pool f = encode (get_or f 0 0)
again OtherPool f = encode (get_or f 0 0)

again_is : (κ : Kind) (f before : List ℕ) → (span κ).1 < 2 ^ 64 → asks κ f before ≡ None → again κ f ≡ f
again_is (Figure m low high) f before b e =
    let p = asks_passes (Figure m low high) f before e in
    figure_back f p.0 (admits_below (Figure m low high) (digits_value 10 f) b p.1)
again_is Name f before b e = refl
again_is Pool f before b e = pool_back f (asks_passes Pool f before e)
again_is OtherPool f before b e = pool_back f (asks_passes OtherPool f before e)

abbrev all_again : List Kind → List (List ℕ) → List (List ℕ)
all_again [] fs = fs
all_again (κ ∷ κs) [] = []
all_again (κ ∷ κs) (f ∷ fs) = again κ f ∷ all_again κs fs

all_again_is : (κs : List Kind) (before : List ℕ) (fs : List (List ℕ)) → all_below κs ≡ true → Passing κs before fs → all_again κs fs ≡ fs
all_again_is [] before fs b p = refl
all_again_is (κ ∷ κs) before [] b p = refl
all_again_is (κ ∷ κs) before (f ∷ fs) b p =
    let c = and_parts (below κ) (all_below κs) b in
    let here = again_is κ f before (ltb-true (span κ).1 (2 ^ 64) c.0) p.0 in
    let there = all_again_is κs f fs c.1 p.1 in
    cc

-- and whether it is in its range
abbrev admits_field : Kind → List ℕ → Bool
admits_field (Figure m low high) f = admits (Figure m low high) (digits_value 10 f)
admits_field Name f = true
admits_field Pool f = true
admits_field OtherPool f = true

admits_field_is : (κ : Kind) (f before : List ℕ) → asks κ f before ≡ None → admits_field κ f ≡ true
admits_field_is (Figure m low high) f before e = (asks_passes (Figure m low high) f before e).1
admits_field_is Name f before e = refl
admits_field_is Pool f before e = refl
admits_field_is OtherPool f before e = refl

abbrev admits_fields : List Kind → List (List ℕ) → Bool
admits_fields [] fs = true
admits_fields (κ ∷ κs) [] = true
admits_fields (κ ∷ κs) (f ∷ fs) = admits_field κ f && admits_fields κs fs

admits_fields_is : (κs : List Kind) (before : List ℕ) (fs : List (List ℕ)) → Passing κs before fs → admits_fields κs fs ≡ true
admits_fields_is [] before fs p = refl
admits_fields_is (κ ∷ κs) before [] p = refl
admits_fields_is (κ ∷ κs) before (f ∷ fs) p =
    let here = admits_field_is κ f before p.0 in
    let there = admits_fields_is κs f fs p.1 in
    rw (here, there) refl

-- what is written of what fields are read as
letter_made : (l : Letter) (fs : List (List ℕ)) → letter (made l (after l fs)) ≡ l
letter_made Header fs = refl
letter_made _ fs = refl

held_made : (l : Letter) (fs : List (List ℕ)) → held (made l (after l fs)) ≡ all_again (form l) (after l fs)
held_made Header fs = refl
held_made _ fs = refl

ranged_made : (l : Letter) (fs : List (List ℕ)) → admits_fields (form l) (after l fs) ≡ true → ranged (made l (after l fs)) ≡ true
ranged_made Header fs e = grind (arith, nat_tests)
ranged_made _ fs e = grind (arith, nat_tests)

fields_made : (l : Letter) (fs : List (List ℕ)) → letter_of (field fs 1) ≡ Some l → length fs ≡ count l → ((k : ℕ) → 2 ≤ k → k ≤ count l → asked l fs k ≡ None) → fields (made l (after l fs)) ≡ fs
fields_made l fs known n clean =
    let byte : byte_of (letter (made l (after l fs))) ∷ [] ≡ field fs 1 = ap (λ l. byte_of l ∷ []) (letter_made l fs) ∙ letter_back (field fs 1) l known in
    let rest : held (made l (after l fs)) ≡ drop 1 fs = held_made l fs ∙ all_again_is (form l) (field fs 1) (after l fs) (form_below l) (passing l fs clean) ∙ after_is l fs n in
    ap (λ f. f ∷ held (made l (after l fs))) byte ∙ ap (λ gs. field fs 1 ∷ gs) rest ∙ all_fields fs (omega arith)

-- bytes that are read are written again
pub written_back : (bytes : List ℕ) (l : Letter) (c : Contents) → c ≡ made l (after l (parted 44 bytes)) → letter_of (field (parted 44 bytes) 1) ≡ Some l → length (parted 44 bytes) ≡ count l → faults l (parted 44 bytes) ≡ None → (fault_in c ≡ None) × (written c ≡ bytes)
written_back bytes l c is known n clean =
    let fs = parted 44 bytes in
    let m = fields_made l fs known n (clean_from l fs clean) in
    (ap fault_in is ∙ ap (λ k. faults k (fields (made l (after l fs)))) (letter_made l fs) ∙ ap (faults l) m ∙ clean, ap written is ∙ ap joined m ∙ joined_parted bytes)

-- no letter is a comma
comma_no_pool : (c : ℕ) → is_some (pool_of c) ≡ true → c ≡ 44 → ⊥
comma_no_pool c e is = grind (arith, nat_tests)

byte_plain : (l : Letter) → byte_of l ≡ 44 → ⊥
byte_plain Header e = omega arith
byte_plain _ e = omega arith

-- no comma stands in a field that passes
abbrev Plain : List ℕ → Type 0
Plain = AllByRecursion (λ b. b ≡ 44 → ⊥)

name_plain : (f : List ℕ) → name_bytes f ≡ true → Plain f
name_plain [] e = tt
name_plain (b ∷ f) e =
    let here = and_parts (name_byte b) (name_bytes f) e in
    let other = not-true (eqb b 44) (and_parts (leb 32 b && leb b 126) (not (eqb b 44)) here.0).1 in
    (eqb-false b 44 other, name_plain f here.1)

pool_plain : (f : List ℕ) → a_pool f ≡ true → Plain f
pool_plain f p =
    let parts = and_parts (eqb (length f) 1) (is_some (pool_of (get_or f 0 0))) p in
    subst Plain (sym (one_byte f (eqb-true (length f) 1 parts.0))) (comma_no_pool (get_or f 0 0) parts.1, tt)

figure_plain : (f : List ℕ) → a_figure f ≡ true → Plain f
figure_plain f t =
    All-from_get_or (λ b. b ≡ 44 → ⊥) f 0 (λ i h e. not_in_digits own f 44 (figure_digits f t) (λ d. omega arith) i h e)

passed_plain : (κ : Kind) (f before : List ℕ) → asks κ f before ≡ None → Plain f
passed_plain (Figure m low high) f before e = figure_plain f (asks_passes (Figure m low high) f before e).0
passed_plain Name f before e =
    name_plain f (and_parts (ltb 0 (length f) && leb (length f) 24) (name_bytes f) (asks_passes Name f before e)).1
passed_plain Pool f before e = pool_plain f (asks_passes Pool f before e)
passed_plain OtherPool f before e = pool_plain f (asks_passes OtherPool f before e)

all_plain : (l : Letter) (fs : List (List ℕ)) → letter_of (field fs 1) ≡ Some l → length fs ≡ count l → ((k : ℕ) → 2 ≤ k → k ≤ count l → asked l fs k ≡ None) → AllByRecursion Plain fs
all_plain l fs known n clean =
    All-from_get_or Plain fs [] (λ i h.
    ⊎_elim
    (λ (z : i ≡ 0). subst (λ j. Plain (get_or fs j [])) (sym z) (subst Plain (letter_back (field fs 1) l known) (byte_plain l, tt)))
    (λ (z : i ≡ 0 → ⊥).
    let j : i + 1 - 1 ≡ i = omega arith in
    subst (λ j. Plain (get_or fs j [])) j (passed_plain (kind l (i + 1)) (field fs (i + 1)) (field fs (i + 1 - 1)) (clean (i + 1) (omega arith) (omega arith))))
    (cases_eq i 0))

-- figures that fit 64 bits
abbrev pub Fitting : Contents → Type 0
Fitting (header a b) = (a < 2 ^ 64) × (b < 2 ^ 64)
Fitting (customer name f) =
    (f.number < 2 ^ 64) × (f.measured < 2 ^ 64) × (f.founding < 2 ^ 64) × (f.conservation < 2 ^ 64) × (f.retail < 2 ^ 64) × (f.large < 2 ^ 64) × (f.resources < 2 ^ 64) × (f.elected < 2 ^ 64) × (f.slice < 2 ^ 64)
Fitting (cost n p c) = (n < 2 ^ 64) × (c < 2 ^ 64)
Fitting (grant n m) = (n < 2 ^ 64) × (m < 2 ^ 64)
Fitting (transfer n m o) = (n < 2 ^ 64) × (m < 2 ^ 64) × (o < 2 ^ 64)

-- the letter of a pool that passes
pool_first : (κ : Kind) (c : ℕ) (before : List ℕ) → (κ ≡ Pool) ⊎ (κ ≡ OtherPool) → asks κ (encode c) before ≡ None → get_or (encode c) 0 0 ≡ c
pool_first Pool c before o e = letter_first c (asks_passes Pool (encode c) before e)
pool_first OtherPool c before o e = letter_first c (asks_passes OtherPool (encode c) before e)
pool_first _ c before o e = absurd (⊎_elim (λ p. cc) (λ p. cc) o)

cost_made : (n c : ℕ) (p : Posting) → n < 2 ^ 64 → c < 2 ^ 64 → Passing (form (cost_letter p)) (byte_of (cost_letter p) ∷ []) (held (cost n p c)) → made (cost_letter p) (held (cost n p c)) ≡ cost n p c
cost_made n c (posting.Expense p) hn hc clean =
    let e = pool_first Pool p (decimal n) (inl refl) clean.1.0 in
    rw (value_of n hn, value_of c hc, e) refl
cost_made n c (posting.Credit p) hn hc clean =
    let e = pool_first Pool p (decimal n) (inl refl) clean.1.0 in
    rw (value_of n hn, value_of c hc, e) refl
cost_made n c (posting.Shift p q) hn hc clean =
    let e = pool_first Pool p (decimal n) (inl refl) clean.1.0 in
    let d = pool_first OtherPool q (encode p) (inr refl) clean.1.1.0 in
    rw (value_of n hn, value_of c hc, e, d) refl

made_held : (c : Contents) → Fitting c → Passing (form (letter c)) (byte_of (letter c) ∷ []) (held c) → made (letter c) (held c) ≡ c
made_held (header a b) fit clean = rw (value_of a fit.0, value_of b fit.1) refl
made_held (customer name f) fit clean =
    rw (value_of f.number fit.0, value_of f.measured fit.1, value_of f.founding fit.2, value_of f.conservation fit.3, value_of f.retail fit.4, value_of f.large fit.5, value_of f.resources fit.6, value_of f.elected fit.7, value_of f.slice fit.8) refl
made_held (cost n p c) fit clean = cost_made n c p fit.0 fit.1 clean
made_held (grant n m) fit clean = rw (value_of n fit.0, value_of m fit.1) refl
made_held (transfer n m o) fit clean = rw (value_of n fit.0, value_of m fit.1, value_of o fit.2) refl

byte_known : (l : Letter) → letter_of (byte_of l ∷ []) ≡ Some l
byte_known Header = refl
byte_known _ = refl

fields_counted : (c : Contents) → length (fields c) ≡ count (letter c)
fields_counted (cost n (posting.Expense p) c) = refl
fields_counted (cost n (posting.Credit p) c) = refl
fields_counted (cost n (posting.Shift p q) c) = refl
fields_counted _ = refl

-- an answer that is accepted met no fault
accepted : (o p : Option Fault) (n : ℕ) (r : Result ℕ Fault) → is_ok r ≡ true → r ≡ told n (or_else o p) → o ≡ None
accepted None p n r ok e = refl
accepted (Some f) p n r ok e =
    let bad : false ≡ true = ap is_ok (sym e) ∙ ok in
    cc

-- the fields of a line that has no fault
held_passing : (c : Contents) → fault_in c ≡ None → Passing (form (letter c)) (byte_of (letter c) ∷ []) (held c)
held_passing c none =
    let l = letter c in
    let fs = fields c in
    subst (Passing (form l) (byte_of l ∷ [])) (after_is l fs (fields_counted c)) (passing l fs (clean_from l fs none))

pub customer_named : (name : List ℕ) (f : Figures) → fault_in (customer name f) ≡ None → a_name name ≡ true
customer_named name f none = asks_passes Name name (decimal f.number) (held_passing (customer name f) none).1.0

-- a line that is written is read again
reads_back : (c : Contents) → Fitting c → fault_in c ≡ None → line_of (written c) ≡ Ok c
reads_back c fit none =
    let l = letter c in
    let fs = fields c in
    let known = byte_known l in
    let n = fields_counted c in
    let clean = clean_from l fs none in
    ap read_fields (parted_joined (byte_of l ∷ []) (held c) (all_plain l fs known n clean))
    ∙ sym (read_through l fs known n none)
    ∙ ap Ok (made_held c fit (held_passing c none))

pub writes_from : (c : Contents) (buffer : List ℕ) (r : Result ℕ Fault) (buffer' : List ℕ) → Fitting c → WritesFields (letter c) (fields c) buffer r buffer' → Writes c buffer r buffer'
writes_from c buffer r buffer' fit w =
    record {
      answer = w.answer;
      after = w.after;
      again = λ ok.
          let none = accepted (fault_in c) _ (length (written c)) r ok w.answer in
          let now : buffer' ≡ written c ++ drop (length (written c)) buffer = w.after ∙ cond-true (is_ok r) _ buffer ok in
          ap (λ xs. line_of (take (length (written c)) xs)) now ∙ ap line_of (take_at (written c) (drop (length (written c)) buffer) (length (written c)) refl) ∙ reads_back c fit none;
    }

-- every figure of what is read is in its range
pub read_ranged : (l : Letter) (fs : List (List ℕ)) (c : Contents) → c ≡ made l (after l fs) → faults l fs ≡ None → ranged c ≡ true
read_ranged l fs c is none =
    ap ranged is ∙ ranged_made l fs (admits_fields_is (form l) (field fs 1) (after l fs) (passing l fs (clean_from l fs none)))
