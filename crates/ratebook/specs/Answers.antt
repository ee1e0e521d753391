-- What a page program does: with its word, and with the page that its source has left.
use Rattle.std.specs.Prelude.{◌≡◌, ℕ, Bool, false, List, Some, None, IfSome, Ok, Err, Result, Option, ⊤, take, codes, bytes_eq, if◌then◌else◌}
use Rattle.std.specs.Borrow.{Bor}
use Rattle.std.specs.Io.KnownBytes.{Appends, Keeps, Consumes}
use Rattle.std.specs.Process.{exit_status}
use Rattle.std.specs.declared.process.ExitCode.{ExitCode}
use Rattle.book.specs.Rates.{Meaning}
use Rattle.page.specs.declared.fault.Fault.{Fault}
use Rattle.page.specs.Pages.{Closed, ComesTo, OnlyOutcome}
use Rattle.printing.specs.Listings.{text, fault_of, ListingAddsUp}
use Rattle.streams.specs.Written.{AppendsFront}
use Rattle.streams.specs.declared.failure.Failure.{Failure}
use Rattle.streams.specs.declared.failure.Failure.TheVariants.{Reading, Writing, Reporting}

-- Whether the first word after the program's name asks for help.
abbrev pub asks_help : Option (Bor (List ℕ)) → Bool
asks_help None = false
asks_help (Some word) = bytes_eq word.now (codes "--help")

-- The status that a page program ends with: 0 for a listing, 1 for the row of a fault.
abbrev pub fault_status : Option Fault → ℕ
fault_status None = 0
fault_status (Some f) = 1

abbrev pub status_of : {D : Type 0} → Result (Closed D) Fault → ℕ
status_of o = fault_status (fault_of o)

-- What a page comes to, and what holds of it.
pub record Comes {D : Type 0} (m : D → Meaning) (d : D) (page : List ℕ) (P : Result (Closed D) Fault → Type 0) : Type 0 where
  pub outcome : Result (Closed D) Fault
  pub comes : ComesTo m d page outcome
  pub only : OnlyOutcome m d page outcome
  pub adds_up : ListingAddsUp page outcome
  pub holds : P outcome

module _ {D R W E : Type 0} (m : D → Meaning) (d : D) where
  -- What a page comes to is written, the whole of it and nothing else, and of a page that is billed
  -- nothing is reported. Where reading fails nothing is written; where writing fails only a front
  -- of it is; and nothing is reported at either. Where a sentence fails, all of it is written, and
  -- it is the row of a fault. Both sinks go from what they held to what they hold, where that is
  -- known, and the page is known where the bytes that the source has left are.
  abbrev pub Answers : (left held held' said said' : Option (List ℕ)) → Result ExitCode (Failure R W E) → Type 0
  Answers left held held' said said' (Ok code) =
      IfSome left (λ page. Comes m d page (λ o.
      Appends held held' (text page o) × (exit_status code ≡ status_of o) × (status_of o ≡ 0 → Keeps said said')))
  Answers left held held' said said' (Err (Reading e)) = Keeps held held' × Keeps said said'
  Answers left held held' said said' (Err (Writing e code)) =
      IfSome left (λ page. Comes m d page (λ o.
      AppendsFront held held' (text page o) × (exit_status code ≡ status_of o)))
      × Keeps said said'
  Answers left held held' said said' (Err (Reporting e)) =
      IfSome left (λ page. Comes m d page (λ o. Appends held held' (text page o) × (status_of o ≡ 1)))

-- What a page program takes of its source: all that is left, or one byte more than a page may
-- have where there is more. Of a source that fails nothing is said.
abbrev pub TakesPage : {R W E : Type 0} → (left left' : Option (List ℕ)) → Result ExitCode (Failure R W E) → Type 0
TakesPage left left' (Err (Reading e)) = ⊤
TakesPage left left' r = IfSome left (λ page. Consumes left left' (take 65537 page))

-- With a word the status says whether it asks for help, and only the sentence can fail.
abbrev pub Helps : {R W E : Type 0} → Option (Bor (List ℕ)) → Result ExitCode (Failure R W E) → Type 0
Helps word (Ok code) = exit_status code ≡ (if asks_help word then 0 else 1)
Helps word (Err (Reporting e)) = ⊤
Helps word (Err e) = ⊥
