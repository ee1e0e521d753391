-- Answers of the book, as lines give them.
use Rattle.std.proofs.Common.{Ok, Err, Result}
use Rattle.book.specs.declared.refusal.Refusal as book
use Rattle.page.specs.declared.fault.Cause.{Cause}
use Rattle.page.specs.declared.fault.Cause.TheVariants.{Page, Line, Book}
use Rattle.page.specs.Steps.{Answered}

-- what is said of an answer follows from what the book says of it
pub answered_by : {X : Type 0} (x : X) (P Q : Result (Unit {0}) book.Refusal → Type 0) (r : Result X Cause) → ((a : Result (Unit {0}) book.Refusal) → P a → Q a) → Answered P x r → Answered Q x r
answered_by x P Q (Ok y) f s = (s.0, f (Ok tt) s.1)
answered_by x P Q (Err (Page e)) f s = s
answered_by x P Q (Err (Line e)) f s = s
answered_by x P Q (Err (Book e)) f s = f (Err e) s
