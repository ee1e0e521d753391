-- Fields as they are written.
use Rattle.std.specs.Prelude.{◌≡◌, ℕ, ◌+◌, cond, List, [], ◌∷◌, ◌++◌, length, drop, is_ok, Result}
use Rattle.units.specs.declared.ranges.Letter.{Letter}
use Rattle.units.specs.Ranges.{kind}
use Rattle.rows.specs.Rows.{joined}
use Rattle.rows.specs.declared.field.Field.{Field}
use Rattle.lines.specs.declared.fault.Fault.{Fault}
use Rattle.lines.specs.Answers.{told}
use Rattle.lines.specs.Lines.{write_asks}
use Rattle.lines.specs.Questions.{Fits}

-- Fields from the k-th on hold what their kinds ask for.
abbrev pub ShapedFrom : Letter → ℕ → List Field → Type 0
ShapedFrom l k [] = Unit {0}
ShapedFrom l k (f ∷ fs) = Fits (kind l k) f × ShapedFrom l (k + 1) fs

-- The fields of a line: the letter's, which is not asked, and the others.
abbrev pub Shaped : Letter → List Field → Type 0
Shaped l [] = ⊥
Shaped l (f ∷ fs) = ShapedFrom l 2 fs

-- Fields are written at the front of a buffer.
pub record WritesFields (l : Letter) (fs : List (List ℕ)) (buffer : List ℕ) (r : Result ℕ Fault) (buffer' : List ℕ) : Type 0 where
  pub answer : r ≡ told (length (joined fs)) (write_asks l fs (length buffer))
  pub after : buffer' ≡ cond (is_ok r) (joined fs ++ drop (length (joined fs)) buffer) buffer
