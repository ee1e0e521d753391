-- A page comes to one outcome only.
use mathlib.Core.HLevel.{is_prop→PathP}
use Rattle.std.proofs.Common.{◌≡◌, ℕ, ◌+◌, Bool, true, false, List, [], ◌∷◌, map, length, replicate, ℤ, pos, Ok, Err, Result, nat_lt, sym, refl, ap, ◌∙◌, subst, arith}
use Rattle.std.proofs.lemmas.Bool.Decides.{nat_tests}
use Rattle.std.specs.Coded.{×_prop, le_prop}
use Rattle.units.specs.Ranges.{total_figure, capability_figure, Within}
use Rattle.units.specs.declared.header.Header.{Header}
use Rattle.records.specs.declared.customer.Customer.{Customer}
use Rattle.records.specs.declared.cost_line.CostLine.{CostLine}
use Rattle.book.specs.declared.figures.Figures.{Figures}
use Rattle.book.specs.declared.figures.Posting.{Posting}
use Rattle.book.specs.declared.parcel.Parcel.{Parcel}
use Rattle.book.specs.declared.refusal.Refusal as book
use Rattle.book.specs.declared.stages.Intake.{Intake}
use Rattle.book.specs.declared.stages.OpenBook.{OpenBook}
use Rattle.book.specs.declared.stages.ClosedBook.{ClosedBook}
use Rattle.book.specs.Customers.{Enters}
use Rattle.book.specs.Lines.{Posts}
use Rattle.book.specs.Marks.{Grants, Lifts, Lands}
use Rattle.book.specs.Rates.{Meaning, wide}
use Rattle.lines.specs.Lines.{Contents, header, customer, cost, grant, transfer, line_of}
use Rattle.page.specs.declared.fault.Cause.{Cause}
use Rattle.page.specs.declared.fault.Cause.TheVariants.{Page, Book}
use Rattle.page.specs.declared.fault.Fault.{Fault}
use Rattle.page.specs.declared.fault.Refusal.TheVariants.{TooLong, Unended}
use Rattle.page.specs.Pages as page
use Rattle.page.specs.Pages.{Reading, Taken, Open, Closed, at_line, founding_line, is_ended, page_lines, intake_of, Takes, Heads, Moves, Acts, Plays, FoundsOn, ClosesOn, BillsOn, BillsAll, Settles, Leads, ComesTo, OnlyOutcome}

-- what the book answers, and what it leaves
enters_once : {places : ℕ} {cs cs₁ cs₂ : List Customer} {f : Figures} {r₁ r₂ : Result (Unit {0}) book.Refusal} → Enters places cs f r₁ cs₁ → Enters places cs f r₂ cs₂ → (r₂ ≡ r₁) × (cs₂ ≡ cs₁)
enters_once a b = (cc, cc)

lifts_once : {cs cs₁ cs₂ : List Customer} {n load : ℕ} {r₁ r₂ : Result Parcel book.Refusal} → Lifts cs n load r₁ cs₁ → Lifts cs n load r₂ cs₂ → (r₂ ≡ r₁) × (cs₂ ≡ cs₁)
lifts_once a b = (cc, cc)

lands_once : {cs cs₁ cs₂ : List Customer} {p : Parcel} {receiver : ℕ} {r₁ r₂ : Result (Unit {0}) book.Refusal} → Lands cs p receiver r₁ cs₁ → Lands cs p receiver r₂ cs₂ → (r₂ ≡ r₁) × (cs₂ ≡ cs₁)
lands_once a b = (cc, cc)

-- customers are taken in
takes_once : {places : ℕ} {cs : List Customer} {n : ℕ} {rs : List Reading} {r₁ r₂ : Result Taken Fault} → Takes places cs n rs r₁ → Takes places cs n rs r₂ → r₂ ≡ r₁
takes_once page.no_more page.no_more = refl
takes_once page.not_read page.not_read = refl
takes_once page.second_header page.second_header = refl
takes_once {places} {n = n} (page.enters {rs = rs} k more) (page.enters {r = r₂} k₂ more₂) =
    takes_once more (subst (λ cs. Takes places cs (n + 1) rs r₂) (enters_once k k₂).1 more₂)
takes_once (page.enters k more) (page.not_entered k₂) = let e = enters_once k k₂ in absurd (cc)
takes_once (page.not_entered k) (page.enters k₂ more₂) = let e = enters_once k k₂ in absurd (cc)
takes_once (page.not_entered k) (page.not_entered k₂) = let e = enters_once k k₂ in cc
takes_once page.second_header (page.others k₂) = absurd k₂
takes_once (page.enters k more) (page.others k₂) = absurd k₂
takes_once (page.not_entered k) (page.others k₂) = absurd k₂
takes_once (page.others k) page.second_header = absurd k
takes_once (page.others k) (page.enters k₂ more₂) = absurd k
takes_once (page.others k) (page.not_entered k₂) = absurd k
takes_once (page.others k) (page.others k₂) = refl

-- headers of the same loads are the same
same_header : (a b : Header) → b.founding_total ≡ a.founding_total → b.capability ≡ a.capability → b ≡ a
same_header a b total capability =
    λ i. record {
      founding_total = total i;
      capability = capability i;
      total_within = is_prop→PathP (λ j. Within total_figure (total j)) (λ j. ×_prop le_prop le_prop) b.total_within a.total_within i;
      capability_within = is_prop→PathP (λ j. Within capability_figure (capability j)) (λ j. ×_prop le_prop le_prop) b.capability_within a.capability_within i;
    }

heads_once : (r : Reading) (h₁ h₂ : Result Header Cause) → Heads r h₁ → Heads r h₂ → h₂ ≡ h₁
heads_once (Err f) h₁ h₂ a b = b ∙ sym a
heads_once (Ok (header t c)) (Ok h₁) (Ok h₂) a b = ap Ok (same_header h₁ h₂ (b.0 ∙ sym a.0) (b.1 ∙ sym a.1))
heads_once (Ok (header t c)) (Ok h₁) (Err e) a b = absurd b
heads_once (Ok (header t c)) (Err e) h₂ a b = absurd a
heads_once (Ok (customer name f)) h₁ h₂ a b = b ∙ sym a
heads_once (Ok (cost number p cents)) h₁ h₂ a b = b ∙ sym a
heads_once (Ok (grant number load)) h₁ h₂ a b = b ∙ sym a
heads_once (Ok (transfer giver receiver load)) h₁ h₂ a b = b ∙ sym a

moves_once : {cs cs₁ cs₂ : List Customer} {giver receiver load : ℕ} {r₁ r₂ : Result (Unit {0}) book.Refusal} → Moves cs giver receiver load r₁ cs₁ → Moves cs giver receiver load r₂ cs₂ → (r₂ ≡ r₁) × (cs₂ ≡ cs₁)
moves_once {cs₂ = cs₂} {receiver = receiver} {r₂ = r₂} (page.lands {p = p} {cs' = cs} k l) (page.lands {p = p₂} k₂ l₂) =
    let e = lifts_once k k₂ in
    let is : p₂ ≡ p = cc in
    lands_once l (subst (λ p. Lands cs p receiver r₂ cs₂) is (subst (λ cs. Lands cs p₂ receiver r₂ cs₂) e.1 l₂))
moves_once (page.lands k l) (page.stays k₂) = let e = lifts_once k k₂ in absurd (cc)
moves_once (page.stays k) (page.lands k₂ l₂) = let e = lifts_once k k₂ in absurd (cc)
moves_once (page.stays k) (page.stays k₂) = let e = lifts_once k k₂ in (cc, e.1)

-- sheets of 512 places are as wide as each other
wide_once : (n : ℕ) (ws ss ws₂ ss₂ : List ℕ) → length ws ≡ 512 → length ss ≡ 512 → length ws₂ ≡ 512 → length ss₂ ≡ 512 → wide n ws₂ ss₂ ≡ wide n ws ss
wide_once n ws ss ws₂ ss₂ lw ls lw₂ ls₂ = cc

module _ {D : Type 0} where
  -- a line acts: its answer, and the book and the registers that it leaves
  record Same (r₁ r₂ : Result (Unit {0}) book.Refusal) (b₁ b₂ : OpenBook D) (cs₁ cs₂ : List Customer) (ls₁ ls₂ : List CostLine) : Type 0 where
    answer : r₂ ≡ r₁
    book : b₂ ≡ b₁
    customers : cs₂ ≡ cs₁
    lines : ls₂ ≡ ls₁

  posts_once : {b b₁ b₂ : OpenBook D} {places : ℕ} {ls ls₁ ls₂ : List CostLine} {number cents : ℕ} {p : Posting} {r₁ r₂ : Result (Unit {0}) book.Refusal} → Posts b places ls number p cents r₁ b₁ ls₁ → Posts b places ls number p cents r₂ b₂ ls₂ → (r₂ ≡ r₁) × (b₂ ≡ b₁) × (ls₂ ≡ ls₁)
  posts_once a b = (cc, cc, cc)

  grants_once : {b b₁ b₂ : OpenBook D} {cs cs₁ cs₂ : List Customer} {n load : ℕ} {r₁ r₂ : Result (Unit {0}) book.Refusal} → Grants b cs n load r₁ b₁ cs₁ → Grants b cs n load r₂ b₂ cs₂ → (r₂ ≡ r₁) × (b₂ ≡ b₁) × (cs₂ ≡ cs₁)
  grants_once a b = (cc, cc, cc)

  acts_once : {places : ℕ} {b b₁ b₂ : OpenBook D} {cs cs₁ cs₂ : List Customer} {ls ls₁ ls₂ : List CostLine} {c : Contents} {r₁ r₂ : Result (Unit {0}) book.Refusal} → Acts places b cs ls c r₁ b₁ cs₁ ls₁ → Acts places b cs ls c r₂ b₂ cs₂ ls₂ → Same r₁ r₂ b₁ b₂ cs₁ cs₂ ls₁ ls₂
  acts_once (page.posts k) (page.posts k₂) =
      let e = posts_once k k₂ in record { answer = e.0; book = e.1; customers = refl; lines = e.2 }
  acts_once (page.grants k) (page.grants k₂) =
      let e = grants_once k k₂ in record { answer = e.0; book = e.1; customers = e.2; lines = refl }
  acts_once (page.transfers k) (page.transfers k₂) =
      let e = moves_once k k₂ in record { answer = e.0; book = refl; customers = e.1; lines = refl }

  plays_once : {places : ℕ} {b : OpenBook D} {cs : List Customer} {ls : List CostLine} {n : ℕ} {rs : List Reading} {r₁ r₂ : Result (Open D) Fault} → Plays places b cs ls n rs r₁ → Plays places b cs ls n rs r₂ → r₂ ≡ r₁
  plays_once page.finished page.finished = refl
  plays_once page.unread page.unread = refl
  plays_once page.headed page.headed = refl
  plays_once page.headed (page.acts k₂ more₂) = elim k₂ [ ]
  plays_once page.headed (page.refused k₂) = elim k₂ [ ]
  plays_once page.late page.late = refl
  plays_once page.late (page.acts k₂ more₂) = elim k₂ [ ]
  plays_once page.late (page.refused k₂) = elim k₂ [ ]
  plays_once (page.acts k more) page.headed = elim k [ ]
  plays_once (page.acts k more) page.late = elim k [ ]
  plays_once {places} {n = n} (page.acts {b' = b} {cs' = cs} {ls' = ls} {rs = rs} k more) (page.acts {b' = b₂} {cs' = cs₂} {ls' = ls₂} {r = r₂} k₂ more₂) =
      let e = acts_once k k₂ in
      plays_once more (subst (λ b. Plays places b cs ls (n + 1) rs r₂) e.book (subst (λ cs. Plays places b₂ cs ls (n + 1) rs r₂) e.customers (subst (λ ls. Plays places b₂ cs₂ ls (n + 1) rs r₂) e.lines more₂)))
  plays_once (page.acts k more) (page.refused k₂) = let e = (acts_once k k₂).answer in absurd (cc)
  plays_once (page.refused k) page.headed = elim k [ ]
  plays_once (page.refused k) page.late = elim k [ ]
  plays_once (page.refused k) (page.acts k₂ more₂) = let e = (acts_once k k₂).answer in absurd (cc)
  plays_once (page.refused k) (page.refused k₂) = let e = (acts_once k k₂).answer in cc

module _ {D : Type 0} (m : D → Meaning) where
  founds_once : {intake : Intake D} {cs cs₁ cs₂ : List Customer} {r₁ r₂ : Result (OpenBook D) (Intake D × book.Refusal)} → FoundsOn m intake cs r₁ cs₁ → FoundsOn m intake cs r₂ cs₂ → (r₂ ≡ r₁) × (cs₂ ≡ cs₁)
  founds_once {cs = cs} (page.founds_on ws ss ws' ss' lw ls k) (page.founds_on ws₂ ss₂ ws₂' ss₂' lw₂ ls₂ k₂) =
      let e = wide_once (length cs) ws ss ws₂ ss₂ lw ls lw₂ ls₂ in (cc, cc)

  closes_once : {b : OpenBook D} {cs cs₁ cs₂ : List Customer} {r₁ r₂ : Result (ClosedBook D) (OpenBook D × book.Refusal)} → ClosesOn m b cs r₁ cs₁ → ClosesOn m b cs r₂ cs₂ → (r₂ ≡ r₁) × (cs₂ ≡ cs₁)
  closes_once {cs = cs} (page.closes_on ws ss ws' ss' lw ls k) (page.closes_on ws₂ ss₂ ws₂' ss₂' lw₂ ls₂ k₂) =
      let e = wide_once (length cs) ws ss ws₂ ss₂ lw ls lw₂ ls₂ in (cc, cc)

  bills_once : {c : ClosedBook D} {cs : List Customer} {letter : ℕ} {ch ch₁ ch₂ : List ℤ} {r₁ r₂ : Result (Unit {0}) book.Refusal} → BillsOn m c cs letter ch r₁ ch₁ → BillsOn m c cs letter ch r₂ ch₂ → (r₂ ≡ r₁) × (ch₂ ≡ ch₁)
  bills_once {cs = cs} (page.bills_on ws ss ws' ss' lw ls k) (page.bills_on ws₂ ss₂ ws₂' ss₂' lw₂ ls₂ k₂) =
      let e = wide_once (length cs) ws ss ws₂ ss₂ lw ls lw₂ ls₂ in (cc, cc)

  bills_all_once : {c : ClosedBook D} {cs : List Customer} {letters : List ℕ} {ch ch₁ ch₂ : List ℤ} {r₁ r₂ : Result (Unit {0}) book.Refusal} → BillsAll m c cs letters ch r₁ ch₁ → BillsAll m c cs letters ch r₂ ch₂ → (r₂ ≡ r₁) × (ch₂ ≡ ch₁)
  bills_all_once page.none page.none = (refl, refl)
  bills_all_once {c} {cs} {ch₂ = ch₂} {r₂ = r₂} (page.billed {letters = letters} k more) (page.billed k₂ more₂) =
      bills_all_once more (subst (λ ch. BillsAll m c cs letters ch r₂ ch₂) (bills_once k k₂).1 more₂)
  bills_all_once (page.billed k more) (page.unbilled k₂) = let e = (bills_once k k₂).0 in absurd (cc)
  bills_all_once (page.unbilled k) (page.billed k₂ more₂) = let e = (bills_once k k₂).0 in absurd (cc)
  bills_all_once (page.unbilled k) (page.unbilled k₂) = bills_once k k₂

  after_close : {b : OpenBook D} {cs cs₁ cs₂ : List Customer} {c₁ c₂ : ClosedBook D} {letters : List ℕ} {ch ch₁ ch₂ : List ℤ} {r₁ r₂ : Result (Unit {0}) book.Refusal} → ClosesOn m b cs (Ok c₁) cs₁ → ClosesOn m b cs (Ok c₂) cs₂ → BillsAll m c₁ cs₁ letters ch r₁ ch₁ → BillsAll m c₂ cs₂ letters ch r₂ ch₂ → (r₂ ≡ r₁) × (ch₂ ≡ ch₁)
  after_close {cs₁ = cs₁} {c₁ = c₁} {c₂ = c₂} {letters = letters} {ch = ch} {ch₂ = ch₂} {r₂ = r₂} k k₂ l l₂ =
      let e = closes_once k k₂ in
      let is : c₂ ≡ c₁ = cc in
      bills_all_once l (subst (λ c. BillsAll m c cs₁ letters ch r₂ ch₂) is (subst (λ cs. BillsAll m c₂ cs letters ch r₂ ch₂) e.1 l₂))

  settles_once : {b : OpenBook D} {cs cs₁ cs₂ : List Customer} {ch ch₁ ch₂ : List ℤ} {r₁ r₂ : Result (ClosedBook D) book.Refusal} → Settles m b cs ch r₁ cs₁ ch₁ → Settles m b cs ch r₂ cs₂ ch₂ → (r₂ ≡ r₁) × (cs₂ ≡ cs₁) × (ch₂ ≡ ch₁)
  settles_once (page.unclosed k) (page.unclosed k₂) = let e = closes_once k k₂ in (cc, e.1, refl)
  settles_once (page.unclosed k) (page.unsettled k₂ l₂) = let e = closes_once k k₂ in absurd (cc)
  settles_once (page.unclosed k) (page.settled k₂ l₂) = let e = closes_once k k₂ in absurd (cc)
  settles_once (page.unsettled k l) (page.unclosed k₂) = let e = closes_once k k₂ in absurd (cc)
  settles_once (page.unsettled k l) (page.unsettled k₂ l₂) =
      let e = after_close k k₂ l l₂ in (cc, (closes_once k k₂).1, e.1)
  settles_once (page.unsettled k l) (page.settled k₂ l₂) = let e = after_close k k₂ l l₂ in absurd (cc)
  settles_once (page.settled k l) (page.unclosed k₂) = let e = closes_once k k₂ in absurd (cc)
  settles_once (page.settled k l) (page.unsettled k₂ l₂) = let e = after_close k k₂ l l₂ in absurd (cc)
  settles_once (page.settled k l) (page.settled k₂ l₂) =
      let e = closes_once k k₂ in (cc, e.1, (after_close k k₂ l l₂).1)

  -- what a book comes to; where it is a fault, the customers and the charges do not count
  abbrev led : Result (ClosedBook D) Fault → List Customer → List ℤ → Result (Closed D) Fault
  led (Ok c) cs ch = Ok (record { book = c; customers = cs; charges = ch })
  led (Err f) cs ch = Err f

  abbrev at_last : ℕ → Result (ClosedBook D) book.Refusal → Result (ClosedBook D) Fault
  at_last n (Ok c) = Ok c
  at_last n (Err e) = Err (at_line n (Book e))

  module _ (places line_places : ℕ) (intake : Intake D) (cs : List Customer) (ch : List ℤ) (rs : List Reading) where
    -- the lines after the header step by step: each step by what the one before it came to
    abbrev AfterPlays : Result (Open D) Fault → Result (Closed D) Fault → Type 0
    AfterPlays (Err f) o = o ≡ Err f
    AfterPlays (Ok x) o =
        (r : Result (ClosedBook D) book.Refusal) × (cs' : List Customer) × (ch' : List ℤ) × Settles m x.book x.customers ch r cs' ch' × (o ≡ led (at_last (length rs + 1) r) cs' ch')

    abbrev AfterFounds : Taken → Result (OpenBook D) (Intake D × book.Refusal) → List Customer → Result (Closed D) Fault → Type 0
    AfterFounds t (Err back) cs₁ o = o ≡ Err (at_line (founding_line t) (Book back.1))
    AfterFounds t (Ok b) cs₁ o =
        (r : Result (Open D) Fault) × Plays line_places b cs₁ [] t.number t.rest r × AfterPlays r o

    abbrev AfterTakes : Result Taken Fault → Result (Closed D) Fault → Type 0
    AfterTakes (Err f) o = o ≡ Err f
    AfterTakes (Ok t) o =
        (r : Result (OpenBook D) (Intake D × book.Refusal)) × (cs₁ : List Customer) × FoundsOn m intake t.customers r cs₁ × AfterFounds t r cs₁ o

    leads_steps : {r : Result (ClosedBook D) Fault} {cs' : List Customer} {ch' : List ℤ} → Leads m places line_places intake cs ch rs r cs' ch' → (t : Result Taken Fault) × Takes places cs 2 rs t × AfterTakes t (led r cs' ch')
    leads_steps (page.untaken {f = f} k) = (Err f, k, refl)
    leads_steps (page.unfounded {t = t} {back = back} {cs' = cs'} k f) = (Ok t, k, (Err back, cs', f, refl))
    leads_steps (page.unplayed {t = t} {b = b} {cs₁ = cs₁} {f = fault} k f p) =
        (Ok t, k, (Ok b, cs₁, f, (Err fault, p, refl)))
    leads_steps (page.ends_refused {t = t} {b = b} {cs₁ = cs₁} {cs' = cs'} {o = o} {e = e} {ch' = ch'} k f p s) =
        (Ok t, k, (Ok b, cs₁, f, (Ok o, p, (Err e, cs', ch', s, refl))))
    leads_steps (page.ends {t = t} {b = b} {cs₁ = cs₁} {cs' = cs'} {o = o} {c = c} {ch' = ch'} k f p s) =
        (Ok t, k, (Ok b, cs₁, f, (Ok o, p, (Ok c, cs', ch', s, refl))))

    after_plays : (r : Result (Open D) Fault) (o₁ o₂ : Result (Closed D) Fault) → AfterPlays r o₁ → AfterPlays r o₂ → o₂ ≡ o₁
    after_plays (Err f) o₁ o₂ a b = b ∙ sym a
    after_plays (Ok x) o₁ o₂ a b = let e = settles_once a.3 b.3 in cc (a.4, b.4)

    after_founds : (t : Taken) (r : Result (OpenBook D) (Intake D × book.Refusal)) (cs₁ : List Customer) (o₁ o₂ : Result (Closed D) Fault) → AfterFounds t r cs₁ o₁ → AfterFounds t r cs₁ o₂ → o₂ ≡ o₁
    after_founds t (Err back) cs₁ o₁ o₂ a b = b ∙ sym a
    after_founds t (Ok x) cs₁ o₁ o₂ a b =
        after_plays a.0 o₁ o₂ a.2 (subst (λ r. AfterPlays r o₂) (plays_once a.1 b.1) b.2)

    after_takes : (t : Result Taken Fault) (o₁ o₂ : Result (Closed D) Fault) → AfterTakes t o₁ → AfterTakes t o₂ → o₂ ≡ o₁
    after_takes (Err f) o₁ o₂ a b = b ∙ sym a
    after_takes (Ok t) o₁ o₂ a b =
        let e = founds_once a.2 b.2 in
        after_founds t a.0 a.1 o₁ o₂ a.3 (subst (λ r. AfterFounds t r a.1 o₂) e.0 (subst (λ cs. AfterFounds t b.0 cs o₂) e.1 b.3))

    leads_once : {r₁ r₂ : Result (ClosedBook D) Fault} {cs₁ cs₂ : List Customer} {ch₁ ch₂ : List ℤ} → Leads m places line_places intake cs ch rs r₁ cs₁ ch₁ → Leads m places line_places intake cs ch rs r₂ cs₂ ch₂ → led r₂ cs₂ ch₂ ≡ led r₁ cs₁ ch₁
    leads_once {r₁} {r₂} {cs₁} {cs₂} {ch₁} {ch₂} k k₂ =
        let a = leads_steps k in
        let b = leads_steps k₂ in
        after_takes a.0 (led r₁ cs₁ ch₁) (led r₂ cs₂ ch₂) a.2 (subst (λ t. AfterTakes t (led r₂ cs₂ ch₂)) (takes_once a.1 b.1) b.2)

  module _ (d : D) where
    -- a page: by its length and its end, by its first line, and by the others
    abbrev AfterHeads : List (List ℕ) → Result Header Cause → Result (Closed D) Fault → Type 0
    AfterHeads rest (Err cause) o = o ≡ Err (at_line 1 cause)
    AfterHeads rest (Ok h) o =
        (r : Result (ClosedBook D) Fault) × (cs : List Customer) × (ch : List ℤ) × Leads m 512 512 (intake_of d h) [] (replicate 2048 (pos 0)) (map line_of rest) r cs ch × (o ≡ led r cs ch)

    abbrev OfLines : List (List ℕ) → Result (Closed D) Fault → Type 0
    OfLines [] o = ⊥
    OfLines (first ∷ rest) o = (h : Result Header Cause) × Heads (line_of first) h × AfterHeads rest h o

    abbrev OfPage : Bool → Bool → List (List ℕ) → Result (Closed D) Fault → Type 0
    OfPage true ended ls o = o ≡ Err (at_line 0 (Page TooLong))
    OfPage false false ls o = o ≡ Err (at_line 0 (Page Unended))
    OfPage false true ls o = OfLines ls o

    of_page : (bytes : List ℕ) (long ended : Bool) (ls : List (List ℕ)) (o : Result (Closed D) Fault) → nat_lt 65536 (length bytes) ≡ long → is_ended bytes ≡ ended → page_lines bytes ≡ ls → OfPage long ended ls o → OfPage (nat_lt 65536 (length bytes)) (is_ended bytes) (page_lines bytes) o
    of_page bytes long ended ls o is_long is_end are x =
        rw (is_long, is_end, are) x

    comes_steps : (bytes : List ℕ) (o : Result (Closed D) Fault) → ComesTo m d bytes o → OfPage (nat_lt 65536 (length bytes)) (is_ended bytes) (page_lines bytes) o
    comes_steps bytes o (page.too_long l) = of_page bytes true _ _ o (grind (arith, nat_tests)) refl refl refl
    comes_steps bytes o (page.not_ended l e) = of_page bytes false false _ o (grind (arith, nat_tests)) e refl refl
    comes_steps bytes o (page.headless {first = first} {rest = rest} {cause = cause} l e ls h) =
        of_page bytes false true (first ∷ rest) o (grind (arith, nat_tests)) e ls (Err cause, h, refl)
    comes_steps bytes o (page.faulted {first = first} {rest = rest} {h = head} {f = f} {cs = cs} {ch = ch} l e ls h k) =
        of_page bytes false true (first ∷ rest) o (grind (arith, nat_tests)) e ls (Ok head, h, (Err f, cs, ch, k, refl))
    comes_steps bytes o (page.billed_page {first = first} {rest = rest} {h = head} {b = b} {cs = cs} {ch = ch} l e ls h k) =
        of_page bytes false true (first ∷ rest) o (grind (arith, nat_tests)) e ls (Ok head, h, (Ok b, cs, ch, k, refl))

    after_heads : (rest : List (List ℕ)) (h : Result Header Cause) (o₁ o₂ : Result (Closed D) Fault) → AfterHeads rest h o₁ → AfterHeads rest h o₂ → o₂ ≡ o₁
    after_heads rest (Err cause) o₁ o₂ a b = b ∙ sym a
    after_heads rest (Ok h) o₁ o₂ a b = b.4 ∙ leads_once 512 512 (intake_of d h) [] (replicate 2048 (pos 0)) (map line_of rest) a.3 b.3 ∙ sym a.4

    of_lines : (ls : List (List ℕ)) (o₁ o₂ : Result (Closed D) Fault) → OfLines ls o₁ → OfLines ls o₂ → o₂ ≡ o₁
    of_lines [] o₁ o₂ a b = absurd a
    of_lines (first ∷ rest) o₁ o₂ a b =
        after_heads rest a.0 o₁ o₂ a.2 (subst (λ h. AfterHeads rest h o₂) (heads_once (line_of first) a.0 b.0 a.1 b.1) b.2)

    page_once : (long ended : Bool) (ls : List (List ℕ)) (o₁ o₂ : Result (Closed D) Fault) → OfPage long ended ls o₁ → OfPage long ended ls o₂ → o₂ ≡ o₁
    page_once true ended ls o₁ o₂ a b = b ∙ sym a
    page_once false false ls o₁ o₂ a b = b ∙ sym a
    page_once false true ls o₁ o₂ a b = of_lines ls o₁ o₂ a b

    -- What a page comes to is the only outcome that it comes to.
    pub comes_once : (bytes : List ℕ) (o : Result (Closed D) Fault) → ComesTo m d bytes o → OnlyOutcome m d bytes o
    comes_once bytes o c = λ o' c'. page_once (nat_lt 65536 (length bytes)) (is_ended bytes) (page_lines bytes) o o' (comes_steps bytes o c) (comes_steps bytes o' c')
