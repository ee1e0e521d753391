-- What fields hold that were read, and the line that they make.
use Rattle.std.proofs.Common.{◌≡◌, ℕ, ◌+◌, ◌-◌, ◌≤◌, true, not, ◌&&◌, eqb, leb, List, get_or, None, sym, ap, ◌∙◌, refl, arith}
use lib.Utf8.{encode}
use Rattle.std.specs.Str.Parse.{digits_value}
use Rattle.std.proofs.lemmas.Bool.{and_parts, leb-true}
use Rattle.std.proofs.lemmas.Str.{encode_ascii}
use Rattle.units.specs.Ranges.{kind, admits, is_figure, range, in_range}
use Rattle.units.specs.declared.ranges.Kind.{Kind}
use Rattle.units.specs.declared.ranges.Kind.TheVariants.{Figure, Name, Pool, OtherPool}
use Rattle.units.specs.declared.ranges.Letter.{Letter}
use Rattle.figures.specs.Figure.{is_figure as a_figure}
use Rattle.lines.specs.declared.fault.Refusal.TheVariants.{NotAName, UnknownPool}
use Rattle.lines.specs.Letters.{field}
use Rattle.lines.specs.Questions.{a_name, a_pool, asks, first_fault}
use Rattle.lines.proofs.Fields.{pool_ascii, pool_encoded, figure_passed, cond_passed}
use Rattle.lines.proofs.Walking.{first_inv}

-- what is known of a field that passes
abbrev pub Passed : Kind → List ℕ → Type 0
Passed (Figure m low high) f = (a_figure f ≡ true) × (admits (Figure m low high) (digits_value 10 f) ≡ true)
Passed Name f = a_name f ≡ true
Passed Pool f = a_pool f ≡ true
Passed OtherPool f = a_pool f ≡ true

pub asks_passes : (κ : Kind) (f before : List ℕ) → asks κ f before ≡ None → Passed κ f
asks_passes (Figure m low high) f before e = figure_passed (Figure m low high) f before refl e
asks_passes Name f before e = cond_passed (a_name f) NotAName e
asks_passes Pool f before e = cond_passed (a_pool f) UnknownPool e
asks_passes OtherPool f before e =
    (and_parts (a_pool f) _ (cond_passed (a_pool f && not (eqb (get_or f 0 0) (get_or before 0 0))) UnknownPool e)).0

pub letter_first : (c : ℕ) → a_pool (encode c) ≡ true → get_or (encode c) 0 0 ≡ c
letter_first c p = ap (λ xs. get_or xs 0 0) (encode_ascii c (pool_ascii c (sym (pool_encoded c) ∙ p)))

-- a figure that was read is in its range
pub figure_below : (l : Letter) (fs : List (List ℕ)) (k j : ℕ) → 2 ≤ k → j ≡ k + 1 → first_fault l fs 2 (j - 2) ≡ None → is_figure (kind l k) ≡ true → digits_value 10 (field fs k) ≤ (range l k).1
figure_below l fs k j some next clean e =
    let n = digits_value 10 (field fs k) in
    let r : in_range l k n ≡ true = (figure_passed (kind l k) (field fs k) (field fs (k - 1)) e (first_inv l fs 2 (j - 2) clean k some (omega arith))).1 in
    leb-true n (range l k).1 (and_parts (leb (range l k).0 n) (leb n (range l k).1) r).1
