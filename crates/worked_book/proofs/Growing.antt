-- A register that loses no record.
use Rattle.std.proofs.Common.{◌≡◌, ℕ, ◌≤◌, min, Bool, true, false, cond, ◌||◌, ◌==◌, List, ◌++◌, length, drop, Some, None, Option, Ok, Err, refl, ap, ◌∙◌, arith}
use Rattle.std.proofs.lemmas.Slice.{drop-append-drop}
use Rattle.register.specs.Register.{memory, room, records, Kept}
use Rattle.register.specs.declared.Keyed.{Ghosts}
use Rattle.register.specs.declared.Register.{Register}
use Rattle.register.proofs.Lookups.{length-added, length-replaced}
use Rattle.records.specs.declared.customer.Customer.{Customer}
use Rattle.records.specs.declared.cost_line.CostLine.{CostLine}
use Rattle.book.specs.Customers as customers
use Rattle.book.specs.Customers.{entered, Enters}
use Rattle.book.specs.Lines as lines
use Rattle.book.specs.Lines.{entry_in, new_line, Posts}
use Rattle.book.specs.Answers.{number}
use Rattle.book.specs.Marks.{home, landed, land_asks, Lands}
use Rattle.book.specs.declared.figures.Figures.{Figures}
use Rattle.book.specs.declared.figures.Posting.{Posting}
use Rattle.book.specs.declared.parcel.Parcel.{Parcel}
use Rattle.book.specs.declared.refusal.Refusal.{Refusal}
use Rattle.worked_book.specs.InTurn.{Answer}
use Rattle.worked_book.specs.Calls.{Open, Ranged}

module _ {R : Type 0} {k : Ghosts R} where
  pub room_kept : (a b : Register R k) → Kept a b → room b ≡ room a
  room_kept a b p = ap (λ (n : ℕ). min n 512) p.size

  -- one change after another, of at least as many records
  pub kept_grown : (a b c : Register R k) → length (records b) ≤ length (records c) → Kept a b → Kept b c → Kept a c
  kept_grown a b c le p q =
      record {
        rest = q.rest ∙ ap (λ (t : List R). records c ++ t) (ap (drop (length (records c))) p.rest ∙ drop-append-drop (length (records b)) (memory a) (records b) (length (records c)) le refl);
        size = q.size ∙ p.size;
        lender = q.lender ∙ p.lender;
      }

pub entering_grows : (places : ℕ) (cs : List Customer) (f : Figures) (cs' : List Customer) → Enters places cs f (Ok tt) cs' → length cs ≤ length cs'
entering_grows places cs f cs' e = omega (arith, ap length e.after, length-added customers.key (entered f) cs)

pub posting_grows : (ranged : Bool) (places number : ℕ) (p : Posting) (cents : ℕ) (s s' : Open × List CostLine) → Ranged ranged (λ t r t'. Posts t.0 places t.1 number p cents r t'.0 t'.1) s (Ok tt) s' → length s.1 ≤ length s'.1
posting_grows true places number p cents s s' e = omega (arith, ap length e.after, length-added lines.key (new_line number p cents) s.1)
posting_grows false places number p cents s s' e =
    let never : ◌≡◌ {A = Answer} (Ok tt) (Err _) = e.0 in let z : ◌≡◌ {A = ℕ} 0 1 = cc in absurd (omega arith)

-- a landing puts records in the place of others
length-landed : (cs : List Customer) (p : Parcel) (receiver : ℕ) (o : Option Refusal) → length (landed cs p receiver o) ≡ length cs
length-landed cs p receiver None = length-replaced customers.key _ _ ∙ length-replaced customers.key _ cs
length-landed cs p receiver (Some e) = elim (number e == 31 || number e == 32) as (λ b. length (cond b (home cs p) cs) ≡ length cs) [ true ↦ length-replaced customers.key _ cs | false ↦ refl ]

pub landing_grows : (cs : List Customer) (p : Parcel) (receiver : ℕ) (r : Answer) (cs' : List Customer) → Lands cs p receiver r cs' → length cs ≤ length cs'
landing_grows cs p receiver r cs' l = omega (arith, ap length l.after, length-landed cs p receiver (land_asks cs p receiver))
