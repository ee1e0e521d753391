-- What a page comes to is a run of a book, so everything adds up.
use Rattle.std.proofs.Common.{◌≡◌, ℕ, ◌+◌, List, [], ◌∷◌, ◌++◌, map, length, ℤ, pos, ◌-ℤ◌, Ok, Err, sum_by, Result, sym, refl, ap, ◌∙◌, subst, inl, inr, add-zero, add_assoc, add_comm, append_assoc, append-nil, arith}
use Rattle.std.proofs.lemmas.List.Sums.{sum_by-cons, sum_by-append}
use Rattle.units.specs.declared.header.Header.{Header}
use Rattle.records.specs.declared.customer.Customer.{Customer}
use Rattle.records.specs.declared.cost_line.CostLine.{CostLine}
use Rattle.records.specs.declared.pool.Pool.{Pool}
use Rattle.records.specs.declared.pool.Pool.TheVariants.{Composite, NonSlice, Slice, Tier2}
use Rattle.records.specs.Pools.{cost_of, credit_of}
use Rattle.book.specs.Lines.{new_line}
use Rattle.book.specs.Rates.{Meaning}
use Rattle.book.specs.Sides.{cost as book-cost}
use Rattle.book.specs.declared.stages.Intake.{Intake}
use Rattle.book.specs.declared.stages.OpenBook.{OpenBook}
use Rattle.book.specs.declared.stages.ClosedBook.{ClosedBook}
use Rattle.lines.specs.Lines.{Contents, header, customer, cost, grant, transfer, line_of}
use Rattle.runs.specs.History.{Event, granting, lifting, landing, posting, closing, billing, grants, grant_of, lines_of, cost_by, expense_in, credit_in, expenses, credits, Billed}
use Rattle.runs.specs.Runs as runs
use Rattle.runs.specs.Runs.{sumℤ, charges_in, all_charges, open_book, World, at, Run, start, next, Entered, one_more, LawfulMeaning}
use Rattle.runs.proofs.Law.{books_stay_sound, books_stay_reconciled}
use Rattle.page.specs.declared.fault.Cause.{Cause}
use Rattle.page.specs.declared.fault.Fault.{Fault}
use Rattle.page.specs.Pages as page
use Rattle.page.specs.Pages.{Reading, Taken, Open, Closed, Heads, Takes, Acts, Plays, FoundsOn, Settles, ComesTo}
use Rattle.page.specs.Sums.{founding_total, capability, grant_in, cost_lines, AddsUp, PageAddsUp}

-- customers that a page takes in came by accepted enters
takes_entered : {cs : List Customer} {n : ℕ} {rs : List Reading} {t : Taken} → Takes 512 cs n rs (Ok t) → Entered cs → Entered t.customers
takes_entered page.no_more e = e
takes_entered (page.enters k more) e = takes_entered more (one_more 512 _ (omega arith) e k)
takes_entered (page.others k) e = e

-- their lines grant nothing
takes_grants : {cs : List Customer} {n : ℕ} {rs : List Reading} {t : Taken} → Takes 512 cs n rs (Ok t) → sum_by grant_in rs ≡ sum_by grant_in t.rest
takes_grants page.no_more = refl
takes_grants (page.enters k more) = takes_grants more
takes_grants (page.others k) = refl

-- nor is any of them a cost line
takes_costs : {cs : List Customer} {n : ℕ} {rs : List Reading} {t : Taken} → Takes 512 cs n rs (Ok t) → cost_lines rs ≡ cost_lines t.rest
takes_costs page.no_more = refl
takes_costs (page.enters k more) = takes_costs more
takes_costs (page.others k) = refl

-- what the first line posts stands before what the others post
cost_lines-cons : (r : Reading) (rs : List Reading) → cost_lines (r ∷ rs) ≡ cost_lines (r ∷ []) ++ cost_lines rs
cost_lines-cons (Err f) rs = refl
cost_lines-cons (Ok (header t c)) rs = refl
cost_lines-cons (Ok (customer name f)) rs = refl
cost_lines-cons (Ok (cost number p cents)) rs = refl
cost_lines-cons (Ok (grant number load)) rs = refl
cost_lines-cons (Ok (transfer giver receiver load)) rs = refl

-- every figure adds up to the same over both: the order of lines does not count
abbrev SameSums : List CostLine → List CostLine → Type 0
SameSums ls ls' = (f : CostLine → ℕ) → sum_by f ls ≡ sum_by f ls'

-- so pools have the same costs
same_costs : (ls ls' : List CostLine) → SameSums ls ls' → (p : Pool) → cost_by ls p ≡ cost_by ls' p
same_costs ls ls' same p = rw (same (λ l. cost_of l.entry p l.cents), same (λ l. credit_of l.entry p l.cents)) refl

-- and the expenses less the credits are the same
same_together : (ls ls' : List CostLine) → SameSums ls ls' → pos (expenses ls) -ℤ pos (credits ls) ≡ pos (expenses ls') -ℤ pos (credits ls')
same_together ls ls' same = rw (same (λ l. expense_in l.entry l.cents), same (λ l. credit_in l.entry l.cents)) refl

-- a line that is posted is the newest of a history, and the last of a page
posted_last : (row : CostLine) (ls ls' : List CostLine) → SameSums ls ls' → SameSums (row ∷ ls) (ls' ++ row ∷ [])
posted_last row ls ls' same f =
    omega (arith, same f, sum_by-cons f row ls, sum_by-append f ls' (row ∷ []), sum_by-cons f row [])

count_more : (e : Event) (es : List Event) (n : ℕ) → grants es ≡ n → grants (e ∷ es) ≡ n + grant_of e
count_more e es n c = sum_by-cons grant_of e es ∙ ap (λ k. grant_of e + k) c ∙ add_comm (grant_of e) n

module _ {D : Type 0} (m : D → Meaning) (w : World D) (ch : List ℤ) where
  -- a run that came so far, what it granted, and the lines that it posted
  record Reached (granted : ℕ) (posted : List CostLine) (b : OpenBook D) (cs : List Customer) (ls : List CostLine) : Type 0 where
    events : List Event
    run : Run m w events (at (open_book b) cs ls ch)
    counts : grants events ≡ granted
    posts : SameSums (lines_of events) posted

  acts_run : {b b' : OpenBook D} {cs cs' : List Customer} {ls ls' : List CostLine} {granted : ℕ} {posted : List CostLine} {c : Contents} → Acts 512 b cs ls c (Ok tt) b' cs' ls' → Reached granted posted b cs ls → Reached (granted + grant_in (Ok c)) (posted ++ cost_lines (Ok c ∷ [])) b' cs' ls'
  acts_run {posted = posted} (page.posts {number = number} {cents = cents} {p = p} k) r =
      record {
        events = _;
        run = next r.run (runs.post k);
        counts = count_more (posting number p cents (Ok tt)) r.events _ r.counts;
        posts = posted_last (new_line number p cents) (lines_of r.events) posted r.posts;
      }
  acts_run {posted = posted} (page.grants {number = number} {load = load} k) r =
      record {
        events = _;
        run = next r.run (runs.grant k);
        counts = count_more (granting number load (Ok tt)) r.events _ r.counts;
        posts = subst (SameSums (lines_of r.events)) (sym (append-nil posted)) r.posts;
      }
  acts_run {posted = posted} (page.transfers {giver = giver} {receiver = receiver} {load = load} (page.lands {p = p} k l)) r =
      record {
        events = _;
        run = next (next r.run (runs.lift k)) (runs.land l);
        counts = count_more (landing p receiver (Ok tt)) (lifting giver load (Ok p) ∷ r.events) _ (count_more (lifting giver load (Ok p)) r.events _ r.counts) ∙ add-zero _;
        posts = subst (SameSums (lines_of r.events)) (sym (append-nil posted)) r.posts;
      }

  plays_run : {b : OpenBook D} {cs : List Customer} {ls : List CostLine} {n : ℕ} {rs : List Reading} {o : Open D} {granted : ℕ} {posted : List CostLine} → Plays 512 b cs ls n rs (Ok o) → Reached granted posted b cs ls → Reached (granted + sum_by grant_in rs) (posted ++ cost_lines rs) o.book o.customers o.lines
  plays_run {granted = granted} {posted = posted} page.finished r =
      record { events = r.events; run = r.run; counts = r.counts ∙ sym (add-zero granted); posts = subst (SameSums (lines_of r.events)) (sym (append-nil posted)) r.posts }
  plays_run {granted = granted} {posted = posted} (page.acts {c = c} {rs = rs} k more) r =
      let next_one = plays_run more (acts_run k r) in
      let all = append_assoc posted (cost_lines (Ok c ∷ [])) (cost_lines rs) ∙ ap (λ ls. posted ++ ls) (sym (cost_lines-cons (Ok c) rs)) in
      record {
        events = next_one.events;
        run = next_one.run;
        counts = next_one.counts ∙ add_assoc granted (grant_in (Ok c)) (sum_by grant_in rs) ∙ ap (λ n. granted + n) (sym (sum_by-cons grant_in (Ok c) rs));
        posts = subst (SameSums (lines_of next_one.events)) all next_one.posts;
      }

-- all four pools are billed
abbrev all_billed : List Event → List Event
all_billed es = billing 84 (Ok tt) ∷ billing 83 (Ok tt) ∷ billing 78 (Ok tt) ∷ billing 67 (Ok tt) ∷ es

billed_in : (es : List Event) (p : Pool) → Billed p (all_billed es)
billed_in es Composite = inr (inr (inr (inl refl)))
billed_in es NonSlice = inr (inr (inl refl))
billed_in es Slice = inr (inl refl)
billed_in es Tier2 = inl refl

billed_grants : (es : List Event) → grants (all_billed es) ≡ grants es
billed_grants es =
    let a = count_more (billing 67 (Ok tt)) es (grants es) refl in
    let b = count_more (billing 78 (Ok tt)) (billing 67 (Ok tt) ∷ es) _ a in
    let c = count_more (billing 83 (Ok tt)) (billing 78 (Ok tt) ∷ billing 67 (Ok tt) ∷ es) _ b in
    let d = count_more (billing 84 (Ok tt)) (billing 83 (Ok tt) ∷ billing 78 (Ok tt) ∷ billing 67 (Ok tt) ∷ es) _ c in
    omega arith

never : {A : Type 0} {h : Header} {e : Cause} → ◌≡◌ {A = Result Header Cause} (Ok h) (Err e) → A
never is = let z : ◌≡◌ {A = ℕ} 0 1 = cc in absurd (omega arith)

-- what adds up, by the intake
record Sums {D : Type 0} (intake : Intake D) (rs : List Reading) (c : ClosedBook D) (cs : List Customer) (ch : List ℤ) : Type 0 where
  marks : sum_by (λ x. x.mark) cs ≡ intake.header.founding_total + sum_by grant_in rs
  rhwms : sum_by (λ x. x.rhwm) cs ≡ intake.header.capability
  charges : (p : Pool) → sumℤ (charges_in p (length cs) ch) ≡ book-cost c.costs c.credits p
  costs : (p : Pool) → book-cost c.costs c.credits p ≡ cost_by (cost_lines rs) p
  together : all_charges (length cs) ch ≡ pos (expenses (cost_lines rs)) -ℤ pos (credits (cost_lines rs))

-- a page's book, closed and billed in all four pools
module _ {D : Type 0} (m : D → Meaning) (fair : (d : D) → LawfulMeaning (m d)) where
  settles_sound : {intake : Intake D} {b : OpenBook D} {cs cs₁ cs' : List Customer} {o : Open D} {c : ClosedBook D} {ch ch' : List ℤ} {n : ℕ} {rs : List Reading} → Entered cs → FoundsOn m intake cs (Ok b) cs₁ → Plays 512 b cs₁ [] n rs (Ok o) → Settles m o.book o.customers ch (Ok c) cs' ch' → Sums intake rs c cs' ch'
  settles_sound {intake} {b} {cs} {cs₁} {cs'} {o} {c} {ch} {ch'} {n} {rs} entered (page.founds_on ws ss ws' ss' lw ls f) played (page.settled (page.closes_on ws₁ ss₁ ws₁' ss₁' lw₁ ls₁ k) (page.billed (page.bills_on a1 a2 a3 a4 a5 a6 k₁) (page.billed (page.bills_on b1 b2 b3 b4 b5 b6 k₂) (page.billed (page.bills_on c1 c2 c3 c4 c5 c6 k₃) (page.billed (page.bills_on d1 d2 d3 d4 d5 d6 k₄) page.none))))) =
      let begun : Reached m (at (open_book b) cs₁ [] ch) ch 0 [] b cs₁ [] = record { events = []; run = start; counts = refl; posts = λ f. refl } in
      let played_run = plays_run m (at (open_book b) cs₁ [] ch) ch played begun in
      let run = next (next (next (next (next played_run.run (runs.close ws₁ ss₁ ws₁' ss₁' k)) (runs.bill a1 a2 a3 a4 k₁)) (runs.bill b1 b2 b3 b4 k₂)) (runs.bill c1 c2 c3 c4 k₃)) (runs.bill d1 d2 d3 d4 k₄) in
      let es = closing ∷ played_run.events in
      let sound = books_stay_sound m fair intake b cs cs₁ ws ss ws' ss' entered f ch (all_billed es) _ run in
      let done = sound.settled in
      let reconciled = books_stay_reconciled m fair intake b cs cs₁ ws ss ws' ss' entered f ch (all_billed es) _ run in
      let granted = played_run.counts in
      let posted : SameSums (lines_of (all_billed es)) (cost_lines rs) = played_run.posts in
      record {
        marks = omega (arith, sound.balanced, reconciled.arrived, billed_grants es, count_more closing played_run.events _ granted);
        rhwms = done.rated.adds_up;
        charges = λ p. (done.paid p (billed_in es p)).adds_up ∙ sym (reconciled.costs p);
        costs = λ p. reconciled.costs p ∙ same_costs (lines_of (all_billed es)) (cost_lines rs) posted p;
        together = done.together (billed_in es Composite) (billed_in es NonSlice) (billed_in es Slice) (billed_in es Tier2) ∙ same_together (lines_of (all_billed es)) (cost_lines rs) posted;
      }

heads_header : (r : Reading) (h : Header) (rs : List Reading) → Heads r (Ok h) → (h.founding_total ≡ founding_total (r ∷ rs)) × (h.capability ≡ capability (r ∷ rs)) × (grant_in r ≡ 0) × (cost_lines (r ∷ rs) ≡ cost_lines rs)
heads_header (Err f) h rs is = never is
heads_header (Ok (header t c)) h rs is = (is.0, is.1, refl, refl)
heads_header (Ok (customer name f)) h rs is = never is
heads_header (Ok (cost number p cents)) h rs is = never is
heads_header (Ok (grant number load)) h rs is = never is
heads_header (Ok (transfer giver receiver load)) h rs is = never is

pub page_adds_up : {D : Type 0} (m : D → Meaning) → ((d : D) → LawfulMeaning (m d)) → (d : D) (bytes : List ℕ) (r : Result (Closed D) Fault) → ComesTo m d bytes r → PageAddsUp bytes r
page_adds_up m fair d bytes (Err f) c = tt
page_adds_up m fair d bytes (Ok x) (page.billed_page {first = first} {rest = rest} {h = h} le ended lines heads (page.ends {t = t} taken founds plays settles)) =
    let rs = map line_of rest in
    let sums = settles_sound m fair (takes_entered taken runs.none) founds plays settles in
    let head = heads_header (line_of first) h rs heads in
    let more = sum_by-cons grant_in (line_of first) rs in
    let same = takes_grants taken in
    let posted : cost_lines (line_of first ∷ rs) ≡ cost_lines t.rest = head.3 ∙ takes_costs taken in
    subst (λ ls. AddsUp (map line_of ls) x) (sym lines) (record {
      marks = omega (arith, sums.marks, head.0, head.2, more, same);
      rhwms = sums.rhwms ∙ head.1;
      charges = sums.charges;
      costs = rw (posted) sums.costs;
      together = rw (posted) sums.together;
    })
