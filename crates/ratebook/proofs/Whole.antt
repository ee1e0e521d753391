-- A page that is read in part is answered as the whole of it: only one that is too long is.
use Rattle.std.proofs.Common.{◌≡◌, ℕ, ◌+◌, ◌<◌, ◌≤◌, List, ◌++◌, length, take, drop, None, Some, IfSome, Option, Ok, Err, Result, refl, sym, ap, ◌∙◌, subst, ⊎_elim, arith, append-nil, take_at, take_all, length-take-le}
use Rattle.std.proofs.Math.Nat.{eq-or-lt_of_le}
use Rattle.std.proofs.lemmas.List.{length-append}
use Rattle.std.specs.Io.KnownBytes.{Consumes, IsAtEnd}
use Rattle.book.specs.Rates.{Meaning}
use Rattle.page.specs.declared.fault.Cause.TheVariants.{Page}
use Rattle.page.specs.declared.fault.Fault.{Fault}
use Rattle.page.specs.declared.fault.Refusal.TheVariants.{TooLong}
use Rattle.page.specs.Pages.{at_line, Closed, too_long}
use Rattle.page.proofs.Once.{comes_once}
use Rattle.printing.specs.declared.printed.Printed.{Printed}
use Rattle.printing.specs.Listings.{text, fault_of, Prints}
use Rattle.ratebook.specs.Answers.{status_of, fault_status, Comes}

-- A source that gave some bytes, all that it had or as many as were asked for, has lost what a page program takes.
pub takes_page : (left left' : Option (List ℕ)) (n : ℕ) (memory : List ℕ) → length memory ≡ 65537 → n ≤ length memory → Consumes left left' (take n memory) → (n < length memory → IsAtEnd left') → IfSome left (λ page. Consumes left left' (take 65537 page))
takes_page None left' n memory size fits lost end = tt
takes_page (Some page) None n memory size fits lost end = absurd lost
takes_page (Some page) (Some rest) n memory size fits lost end =
    let read = take n memory in
    let count : length read ≡ n = length-take-le n memory fits in
    let all : length page ≡ length read + length rest = ap length lost ∙ length-append read rest in
    ⊎_elim
    (λ full. lost ∙ ap (λ t. t ++ rest) (sym (ap (take 65537) lost ∙ take_at read rest 65537 (count ∙ full ∙ size))))
    (λ short.
    let none : length rest ≡ 0 = ap length (end short) in
    sym (append-nil page)
    ∙ ap (λ t. page ++ t) (sym (end short))
    ∙ ap (λ t. t ++ rest) (sym (take_all 65537 page (omega arith))))
    (eq-or-lt_of_le fits)

module _ {D : Type 0} (m : D → Meaning) (d : D) where
  -- What was printed is the text of what a page comes to, and by its fault one knows the status.
  abbrev pub PrintedAs : Printed → List ℕ → List ℕ → Result (Closed D) Fault → Type 0
  PrintedAs printed buffer' page o = (take printed.length buffer' ≡ text page o) × (fault_status printed.fault ≡ status_of o)

  comes_read : (read buffer buffer' : List ℕ) (printed : Printed) → Prints m d read buffer printed buffer' → Comes m d read (PrintedAs printed buffer' read)
  comes_read read buffer buffer' printed p =
      let shown = text read p.outcome in
      record {
        outcome = p.outcome;
        comes = p.comes;
        only = p.only;
        adds_up = p.adds_up;
        holds = (ap (take printed.length) p.after ∙ take_at shown (drop (length shown) buffer) printed.length (sym p.count), ap fault_status p.fault);
      }

  comes_longer : (read page buffer' : List ℕ) (printed : Printed) → 65536 < length read → 65536 < length page → Comes m d read (PrintedAs printed buffer' read) → Comes m d page (PrintedAs printed buffer' page)
  comes_longer read page buffer' printed h long c =
      let refused : Result (Closed D) Fault = Err (at_line 0 (Page TooLong)) in
      let e = sym (c.only refused (too_long h)) in
      record {
        outcome = refused;
        comes = too_long long;
        only = comes_once m d page refused (too_long long);
        adds_up = tt;
        holds = (c.holds.0 ∙ ap (text read) e, c.holds.1 ∙ ap status_of e);
      }

  comes_page : (left left' : Option (List ℕ)) (n : ℕ) (memory buffer buffer' : List ℕ) (printed : Printed) → length memory ≡ 65537 → n ≤ length memory → Consumes left left' (take n memory) → (n < length memory → IsAtEnd left') → Prints m d (take n memory) buffer printed buffer' → IfSome left (λ page. Comes m d page (PrintedAs printed buffer' page))
  comes_page None left' n memory buffer buffer' printed size fits lost end p = tt
  comes_page (Some page) None n memory buffer buffer' printed size fits lost end p = absurd lost
  comes_page (Some page) (Some rest) n memory buffer buffer' printed size fits lost end p =
      let read = take n memory in
      let c = comes_read read buffer buffer' printed p in
      let count : length read ≡ n = length-take-le n memory fits in
      let all : length page ≡ length read + length rest = ap length lost ∙ length-append read rest in
      ⊎_elim
      (λ full. comes_longer read page buffer' printed (omega arith) (omega arith) c)
      (λ short. subst (λ p. Comes m d p (PrintedAs printed buffer' p)) (sym (lost ∙ ap (λ t. read ++ t) (end short) ∙ append-nil read)) c)
      (eq-or-lt_of_le fits)

  comes_so : (left : Option (List ℕ)) (printed : Printed) (buffer' : List ℕ) (P : List ℕ → Result (Closed D) Fault → Type 0) → ((page : List ℕ) (o : Result (Closed D) Fault) → PrintedAs printed buffer' page o → P page o) → IfSome left (λ page. Comes m d page (PrintedAs printed buffer' page)) → IfSome left (λ page. Comes m d page (P page))
  comes_so None printed buffer' P f c = tt
  comes_so (Some page) printed buffer' P f c =
      record {
        outcome = c.outcome;
        comes = c.comes;
        only = c.only;
        adds_up = c.adds_up;
        holds = f page c.outcome c.holds;
      }

  -- What holds of what the page of a source comes to, from what was read of it and what was printed for that.
  pub page_comes : (left left' : Option (List ℕ)) (memory : List ℕ) {n : ℕ} {buffer buffer' : List ℕ} {printed : Printed} (P : List ℕ → Result (Closed D) Fault → Type 0) → length memory ≡ 65537 → n ≤ length memory → Consumes left left' (take n memory) → (n < length memory → IsAtEnd left') → Prints m d (take n memory) buffer printed buffer' → ((page : List ℕ) (o : Result (Closed D) Fault) → PrintedAs printed buffer' page o → P page o) → IfSome left (λ page. Comes m d page (P page))
  page_comes left left' memory {n} {buffer} {buffer'} {printed} P size fits lost end p f =
      comes_so left printed buffer' P f (comes_page left left' n memory buffer buffer' printed size fits lost end p)
