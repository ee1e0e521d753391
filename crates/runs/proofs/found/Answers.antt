use Rattle.std.proofs.Common.{◌≡◌, ℕ, List, Ok, Err, Result, IfOk, MatchResult}
use Rattle.register.specs.Register.{records}
use Rattle.records.specs.declared.customer.Customer.{Customer}
use Rattle.book.specs.declared.refusal.Refusal.{Refusal}
use Rattle.book.specs.declared.refusal.Refusal.TheVariants.{Spoiled}
use Rattle.book.specs.declared.stages.Intake.{Intake}
use Rattle.book.specs.declared.stages.OpenBook.{OpenBook}
use Rattle.book.specs.Rates.{Meaning, Founds}
use Rattle.runs.specs.Runs.{Founded, Entered, StaysSound, StaysReconciled, LawfulMeaning}
use Rattle.runs.proofs.Founding.{found_unspoiled, found_marks}
use Rattle.runs.proofs.Law.{books_stay_sound, books_stay_reconciled}
use Rattle.runs.proofs.found.Goals as goal

-- a founded book stays sound, and a refused founding is not by 24, by what founding promises
sound : {D : Type 0} (m : D → Meaning) → ((d : D) → LawfulMeaning (m d)) → (intake : Intake D) (cs cs' : List Customer) (ws ss ws' ss' : List ℕ) (r : Result (OpenBook D) (Intake D × Refusal)) → Founds m intake cs ws ss r cs' ws' ss' → MatchResult r (λ b. Entered cs → StaysSound m intake.header.founding_total intake.header.capability b cs') (λ back. Entered cs → back.1 ≡ Spoiled → ⊥)
sound m fair intake cs cs' ws ss ws' ss' (Ok b) f = λ entered. books_stay_sound m fair intake b cs cs' ws ss ws' ss' entered f
sound m fair intake cs cs' ws ss ws' ss' (Err back) f = λ entered bad. found_unspoiled m intake back cs cs' ws ss ws' ss' entered f bad

-- the marks are shares within one unit
founded : {D : Type 0} (m : D → Meaning) → ((d : D) → LawfulMeaning (m d)) → (intake : Intake D) (cs cs' : List Customer) (ws ss ws' ss' : List ℕ) (r : Result (OpenBook D) (Intake D × Refusal)) → Founds m intake cs ws ss r cs' ws' ss' → IfOk r (λ b. Founded intake.header.founding_total cs')
founded m fair intake cs cs' ws ss ws' ss' (Ok b) f = found_marks m fair f
founded m fair intake cs cs' ws ss ws' ss' (Err back) f = tt

-- when it is closed, it is reconciled
reconciled : {D : Type 0} (m : D → Meaning) → ((d : D) → LawfulMeaning (m d)) → (intake : Intake D) (cs cs' : List Customer) (ws ss ws' ss' : List ℕ) (r : Result (OpenBook D) (Intake D × Refusal)) → Founds m intake cs ws ss r cs' ws' ss' → IfOk r (λ b. Entered cs → StaysReconciled m b cs')
reconciled m fair intake cs cs' ws ss ws' ss' (Ok b) f = λ entered. books_stay_reconciled m fair intake b cs cs' ws ss ws' ss' entered f
reconciled m fair intake cs cs' ws ss ws' ss' (Err back) f = tt

pub returns : goal.returns
returns g c = record {
  done = c.found.ensures.done;
  kept = c.found.ensures.kept;
  marks = founded g.D.Divider.meaning g.met.D.Divider.fair c.args.intake (records c.args.customers.now) (records c.found.new.customers) c.args.weights.now c.args.shares.now c.found.new.weights c.found.new.shares c.found.result c.found.ensures.done;
  runs = sound g.D.Divider.meaning g.met.D.Divider.fair c.args.intake (records c.args.customers.now) (records c.found.new.customers) c.args.weights.now c.args.shares.now c.found.new.weights c.found.new.shares c.found.result c.found.ensures.done;
  closes = reconciled g.D.Divider.meaning g.met.D.Divider.fair c.args.intake (records c.args.customers.now) (records c.found.new.customers) c.args.weights.now c.args.shares.now c.found.new.weights c.found.new.shares c.found.result c.found.ensures.done;
}
