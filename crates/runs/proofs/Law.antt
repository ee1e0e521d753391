-- Every run of a founded book is sound: by induction over its calls.
use Rattle.std.proofs.Common.{◌≡◌, ℕ, ◌+◌, ◌<◌, ◌≤◌, Bool, cond, List, [], ◌∷◌, ℤ, is_ok, Some, None, Ok, refl, ap, ◌∙◌, inl, inr, arith}
use Rattle.std.specs.List.{AllByRecursion}
use Rattle.std.proofs.lemmas.Bool.{cond_both}
use Rattle.records.specs.declared.customer.Customer.{Customer}
use Rattle.records.specs.declared.cost_line.CostLine.{CostLine}
use Rattle.records.specs.declared.pool.Pool.{Pool}
use Rattle.records.specs.declared.pool.Pool.TheVariants.{Composite, NonSlice, Slice, Tier2}
use Rattle.book.specs.declared.refusal.Refusal.TheVariants.{Spoiled}
use Rattle.book.specs.declared.stages.Intake.{Intake}
use Rattle.book.specs.declared.stages.OpenBook.{OpenBook}
use Rattle.book.specs.declared.stages.ClosedBook.{ClosedBook}
use Rattle.book.specs.Sides.{cost}
use Rattle.book.specs.Rates.{Meaning, Founds}
use Rattle.runs.specs.History.{Event, closing, refusal, grants, lines_of, bill_of, cost_by, Billed}
use Rattle.runs.specs.Runs.{AlwaysSound, Stage, open_book, closed_book, World, at, Step, grant, lift, land, return, post, strike, stay, close, bill, Run, start, next, held, on_the_way, Rated, Paid, Closing, Reconciling, LawfulMeaning, Entered, StaysReconciled, BooksStaySound}
use Rattle.runs.proofs.Founding.{Starts, found_starts}
use Rattle.runs.proofs.Marks.{MarksKept, same_marks, grant_keeps, grant_unspoiled, lift_keeps, lift_unspoiled, land_keeps, land_unspoiled, return_keeps, return_unspoiled}
use Rattle.runs.proofs.Lines.{LinesKept, cost_is, none_kept, others_keep, post_keeps, post_unspoiled, strike_keeps, strike_unspoiled}
use Rattle.runs.proofs.Charges.{Bounded, bill_keeps, bill_unspoiled, paid_by_lines, all_paid}
use Rattle.runs.proofs.Rates.{stay_same, stay_unspoiled, close_shuts, close_arrived, close_keeps}

-- A part of the book that a call changes in neither case.
same_part : {A B : Type 0} (f : A → B) (t : Bool) {x y z : A} → z ≡ cond t x y → f x ≡ f y → f z ≡ f y
same_part {A} f t {x} {y} {z} e same = ap f e ∙ cond_both t x y (λ (v : A). f v ≡ f y) (λ _. same) (λ _. refl)

-- A call that bills nothing bills no pool.
still_unbilled : (es : List Event) (e : Event) → bill_of e ≡ None → ((p : Pool) → Billed p es → ⊥) → (p : Pool) → Billed p (e ∷ es) → ⊥
still_unbilled es e none before p (inl is) = absurd (let z : ◌≡◌ {A = ℕ} 0 1 = cc in omega arith)
still_unbilled es e none before p (inr earlier) = before p earlier

-- Four billed pools are all.
all_billed : (es : List Event) → Billed Composite es → Billed NonSlice es → Billed Slice es → Billed Tier2 es → (p : Pool) → Billed p es
all_billed es c n s t Composite = c
all_billed es c n s t NonSlice = n
all_billed es c n s t Slice = s
all_billed es c n s t Tier2 = t

module _ {D : Type 0} (m : D → Meaning) (fair : (d : D) → LawfulMeaning (m d)) where
  module _ (total capability : ℕ) (some : 0 < total) (most : total ≤ 20000000) (able : capability ≤ 20000000) where
    record OpenKept (es : List Event) (b : OpenBook D) (cs : List Customer) (ls : List CostLine) : Type 0 where
      marks : MarksKept total es b.granted cs
      same : b.header.capability ≡ capability
      lines : LinesKept es b.costs b.credits ls
      unbilled : (p : Pool) → Billed p es → ⊥

    record ShutKept (es : List Event) (c : ClosedBook D) (cs : List Customer) (ls : List CostLine) (ch : List ℤ) : Type 0 where
      marks : MarksKept total es c.granted cs
      arrived : on_the_way cs ≡ 0
      rated : Rated capability cs
      lines : LinesKept es c.costs c.credits ls
      paid : (p : Pool) → Billed p es → Paid p (cost c.costs c.credits p) cs ch

    abbrev KeptAt : List Event → Stage D → List Customer → List CostLine → List ℤ → Type 0
    KeptAt es (open_book b) cs ls ch = OpenKept es b cs ls
    KeptAt es (closed_book c) cs ls ch = ShutKept es c cs ls ch

    abbrev Kept : List Event → World D → Type 0
    Kept es w = KeptAt es w.stage w.customers w.lines w.charges

    step : (es : List Event) {e : Event} {w w' : World D} → Step m w e w' → Kept es w → Kept (e ∷ es) w' × (refusal e ≡ Some Spoiled → ⊥)
    step es {e} (grant {ls = ls} {r = r} k) h = (
      record {
        marks = grant_keeps k h.marks;
        same = same_part (λ (x : OpenBook D). x.header.capability) (is_ok r) k.book refl ∙ h.same;
        lines = rw (same_part (λ (x : OpenBook D). x.costs) (is_ok r) k.book refl, same_part (λ (x : OpenBook D). x.credits) (is_ok r) k.book refl) (others_keep (λ struck. refl) h.lines);
        unbilled = still_unbilled es e refl h.unbilled;
      },
      grant_unspoiled most k h.marks,
    )
    step es {e} (lift k) h =
        (record { marks = lift_keeps k h.marks; same = h.same; lines = others_keep (λ struck. refl) h.lines; unbilled = still_unbilled es e refl h.unbilled }, lift_unspoiled k)
    step es {e} (land k) h =
        (record { marks = land_keeps k h.marks; same = h.same; lines = others_keep (λ struck. refl) h.lines; unbilled = still_unbilled es e refl h.unbilled }, land_unspoiled most k h.marks)
    step es {e} (return k) h =
        (record { marks = return_keeps k h.marks; same = h.same; lines = others_keep (λ struck. refl) h.lines; unbilled = still_unbilled es e refl h.unbilled }, return_unspoiled most k h.marks)
    step es {e} (post {number = number} {p = p} {cents = cents} {r = r} k) h = (
      record {
        marks = rw (same_part (λ (x : OpenBook D). x.granted) (is_ok r) k.book refl) (same_marks e refl h.marks);
        same = same_part (λ (x : OpenBook D). x.header.capability) (is_ok r) k.book refl ∙ h.same;
        lines = post_keeps h.lines number p cents r k;
        unbilled = still_unbilled es e refl h.unbilled;
      },
      post_unspoiled number p cents r k,
    )
    step es {e} (strike {number = number} {r = r} k) h = (
      record {
        marks = rw (same_part (λ (x : OpenBook D). x.granted) (is_ok r) k.book refl) (same_marks e refl h.marks);
        same = same_part (λ (x : OpenBook D). x.header.capability) (is_ok r) k.book refl ∙ h.same;
        lines = strike_keeps h.lines number r k;
        unbilled = still_unbilled es e refl h.unbilled;
      },
      strike_unspoiled h.lines number r k,
    )
    step es {e} (stay {b = b} {b' = b'} {cs = cs} {cs' = cs'} {ls = ls} ws ss ws' ss' k) h =
        let left = stay_same m k in (
          rw (left.0, left.1) (record { marks = same_marks e refl h.marks; same = h.same; lines = others_keep (λ struck. refl) h.lines; unbilled = still_unbilled es e refl h.unbilled }),
          stay_unspoiled m k some most (omega (arith, h.same)) h.marks,
        )
    step es (close {b = b} {c = c} ws ss ws' ss' k) h =
        let shut = close_shuts m fair k in (
          record {
            marks = close_keeps m fair k h.marks;
            arrived = shut.carries ∙ close_arrived m fair k;
            rated = rw h.same at shut.rated;
            lines = rw shut.book (others_keep (λ struck. refl) h.lines);
            paid = λ p billed. absurd (still_unbilled es closing refl h.unbilled p billed);
          },
          λ bad. (let z : ◌≡◌ {A = ℕ} 0 1 = cc in omega arith),
        )
    step es {e} (bill {c = c} {cs = cs} {letter = letter} {r = r} ws ss ws' ss' k) h =
        let bounded : Bounded cs = record { count = h.marks.few; elected = h.marks.small; rhwms = omega (arith, h.rated.adds_up) } in (
          record {
            marks = same_marks e refl h.marks;
            arrived = h.arrived;
            rated = h.rated;
            lines = others_keep (λ struck. refl) h.lines;
            paid = bill_keeps m c cs bounded h.lines.within fair r k es h.paid;
          },
          bill_unspoiled m c cs bounded h.lines.within letter r k,
        )

    run : {b : OpenBook D} {cs : List Customer} {ch : List ℤ} → OpenKept [] b cs [] → (es : List Event) {w : World D} → Run m (at (open_book b) cs [] ch) es w → Kept es w × AllByRecursion (λ e. refusal e ≡ Some Spoiled → ⊥) es
    run h es start = (h, tt)
    run h es (next {es = before} r s) =
        let kept = run h before r in
        let now = step before s kept.0 in
        (now.0, (now.1, kept.1))

    settled : (es : List Event) (s : Stage D) (cs : List Customer) (ls : List CostLine) (ch : List ℤ) → KeptAt es s cs ls ch → (held cs + on_the_way cs ≡ total + grants es) × Closing capability es s (at s cs ls ch)
    settled es (open_book b) cs ls ch h = (h.marks.balanced, tt)
    settled es (closed_book c) cs ls ch h =
        let paid : (p : Pool) → Billed p es → Paid p (cost_by (lines_of es) p) cs ch = λ p billed. paid_by_lines h.lines p (h.paid p billed) in (
          h.marks.balanced,
          record {
            rated = h.rated;
            paid = paid;
            together = λ c n s t. all_paid (lines_of es) (λ p. paid p (all_billed es c n s t p));
          },
        )

    reconciled : (es : List Event) (s : Stage D) (cs : List Customer) (ls : List CostLine) (ch : List ℤ) → KeptAt es s cs ls ch → Reconciling es s cs
    reconciled es (open_book b) cs ls ch h = tt
    reconciled es (closed_book c) cs ls ch h = record { arrived = h.arrived; costs = cost_is h.lines }

  -- a book that was just founded
  founded : {intake : Intake D} {b : OpenBook D} {cs : List Customer} (starts : Starts intake b cs) → OpenKept intake.header.founding_total intake.header.capability starts.some starts.total starts.able [] b cs []
  founded starts = record {
    marks = starts.marks;
    same = starts.capability;
    lines = rw (starts.costs, starts.credits) (none_kept);
    unbilled = λ p none. none;
  }

  pub books_stay_sound : BooksStaySound m
  books_stay_sound intake b cs cs' ws ss ws' ss' entered founds charges es w r =
      let starts = found_starts m fair entered founds in
      let total = intake.header.founding_total in
      let capability = intake.header.capability in
      let kept = run total capability starts.some starts.total starts.able (founded starts) es r in
      let end = settled total capability starts.some starts.total starts.able es w.stage w.customers w.lines w.charges kept.0 in
      record { balanced = end.0; settled = end.1; unspoiled = kept.1 }

  pub books_stay_reconciled : (intake : Intake D) (b : OpenBook D) (cs cs' : List Customer) (ws ss ws' ss' : List ℕ) → Entered cs → Founds m intake cs ws ss (Ok b) cs' ws' ss' → StaysReconciled m b cs'
  books_stay_reconciled intake b cs cs' ws ss ws' ss' entered founds charges es w r =
      let starts = found_starts m fair entered founds in
      let total = intake.header.founding_total in
      let capability = intake.header.capability in
      let kept = run total capability starts.some starts.total starts.able (founded starts) es r in
      reconciled total capability starts.some starts.total starts.able es w.stage w.customers w.lines w.charges kept.0

pub always_sound : AlwaysSound
always_sound = books_stay_sound (λ d. d.meaning) (λ d. d.fair)
