-- What a page comes to: its lines one after the other, then the close and the bills.
use Rattle.std.specs.Prelude.{◌≡◌, ℕ, ◌+◌, ◌-◌, ◌<◌, ◌≤◌, Bool, true, false, cond, List, [], ◌∷◌, map, length, take, replicate, ℤ, pos, Ok, Err, Result, ◌==◌, slice_index}
use Rattle.units.specs.declared.header.Header.{Header}
use Rattle.records.specs.declared.customer.Customer.{Customer}
use Rattle.records.specs.declared.cost_line.CostLine.{CostLine}
use Rattle.book.specs.declared.figures.Figures.{Figures}
use Rattle.book.specs.declared.figures.Posting.{Posting}
use Rattle.book.specs.declared.parcel.Parcel.{Parcel}
use Rattle.book.specs.declared.refusal.Refusal as book
use Rattle.book.specs.declared.stages.Intake.{Intake}
use Rattle.book.specs.declared.stages.OpenBook.{OpenBook}
use Rattle.book.specs.declared.stages.ClosedBook.{ClosedBook}
use Rattle.book.specs.Customers.{Enters}
use Rattle.book.specs.Lines.{Posts}
use Rattle.book.specs.Marks.{Grants, Lifts, Lands}
use Rattle.book.specs.Rates.{Meaning, Founds, Closes, Bills}
use Rattle.rows.specs.Rows.{parted}
use Rattle.lines.specs.Lines.{Contents, header, customer, cost, grant, transfer, line_of}
use Rattle.lines.specs.declared.fault.Fault as lines
use Rattle.page.specs.declared.fault.Cause.{Cause}
use Rattle.page.specs.declared.fault.Cause.TheVariants.{Page, Line, Book}
use Rattle.page.specs.declared.fault.Fault.{Fault}
use Rattle.page.specs.declared.fault.Refusal.TheVariants.{TooLong, Unended, HeaderPlace, LateCustomer}

-- What a line reads as.
abbrev pub Reading : Type 0
Reading = Result Contents lines.Fault

abbrev pub at_line : ℕ → Cause → Fault
at_line n c = record { line = n; cause = c }

-- The customers that were taken in, the number of the line after theirs, and the lines from it on.
pub record Taken : Type 0 where
  pub customers : List Customer
  pub number : ℕ
  pub rest : List Reading

-- An open book, and the records of both registers.
pub record Open (D : Type 0) : Type 0 where
  pub book : OpenBook D
  pub customers : List Customer
  pub lines : List CostLine

-- A closed and billed book, its customers, and the charges sheet.
pub record Closed (D : Type 0) : Type 0 where
  pub book : ClosedBook D
  pub customers : List Customer
  pub charges : List ℤ

-- A cost line, a grant and a transfer act on an open book.
abbrev pub IsAct : Contents → Type 0
IsAct (header t c) = ⊥
IsAct (customer name f) = ⊥
IsAct _ = Unit {0}

-- The n-th line and those after it take customers in, where there are so many places.
pub data Takes (places : ℕ) : List Customer → ℕ → List Reading → Result Taken Fault → Type 0 where
  no_more : {cs : List Customer} {n : ℕ} → Takes places cs n [] (Ok (record { customers = cs; number = n; rest = [] }))
  not_read : {cs : List Customer} {n : ℕ} {f : lines.Fault} {rs : List Reading} → Takes places cs n (Err f ∷ rs) (Err (at_line n (Line f)))
  second_header : {cs : List Customer} {n t c : ℕ} {rs : List Reading} → Takes places cs n (Ok (header t c) ∷ rs) (Err (at_line n (Page HeaderPlace)))
  enters : {cs cs' : List Customer} {n : ℕ} {name : List ℕ} {f : Figures} {rs : List Reading} {r : Result Taken Fault} → Enters places cs f (Ok tt) cs' → Takes places cs' (n + 1) rs r → Takes places cs n (Ok (customer name f) ∷ rs) r
  not_entered : {cs cs' : List Customer} {n : ℕ} {name : List ℕ} {f : Figures} {rs : List Reading} {e : book.Refusal} → Enters places cs f (Err e) cs' → Takes places cs n (Ok (customer name f) ∷ rs) (Err (at_line n (Book e)))
  others : {cs : List Customer} {n : ℕ} {c : Contents} {rs : List Reading} → IsAct c → Takes places cs n (Ok c ∷ rs) (Ok (record { customers = cs; number = n; rest = Ok c ∷ rs }))

-- The first line, by what it reads as: a header's loads.
abbrev pub Heads : Reading → Result Header Cause → Type 0
Heads (Err f) r = r ≡ Err (Line f)
Heads (Ok (header t c)) (Ok h) = (h.founding_total ≡ t) × (h.capability ≡ c)
Heads (Ok (header t c)) (Err e) = ⊥
Heads (Ok _) r = r ≡ Err (Page HeaderPlace)

-- The line at which a book is founded: the first after the customers', or the last.
abbrev pub founding_line : Taken → ℕ
founding_line t = cond (length t.rest == 0) (t.number - 1) t.number

-- The lines of a page that ends with byte 10, without their end bytes.
abbrev pub is_ended : List ℕ → Bool
is_ended page = slice_index page (length page - 1) == 10

abbrev pub page_lines : List ℕ → List (List ℕ)
page_lines page = parted 10 (take (length page - 1) page)

-- An intake over a divider and a header.
abbrev pub intake_of : {D : Type 0} → D → Header → Intake D
intake_of d h = record { divider = d; header = h }

-- A transfer lifts a load and lands it.
pub data Moves (cs : List Customer) (giver receiver load : ℕ) : Result (Unit {0}) book.Refusal → List Customer → Type 0 where
  lands : {p : Parcel} {r : Result (Unit {0}) book.Refusal} {cs' cs'' : List Customer} → Lifts cs giver load (Ok p) cs' → Lands cs' p receiver r cs'' → Moves cs giver receiver load r cs''
  stays : {e : book.Refusal} {cs' : List Customer} → Lifts cs giver load (Err e) cs' → Moves cs giver receiver load (Err e) cs'

module _ {D : Type 0} where
  -- A line acts on an open book, where there are so many places for cost lines.
  pub data Acts (places : ℕ) (b : OpenBook D) (cs : List Customer) (ls : List CostLine) : Contents → Result (Unit {0}) book.Refusal → OpenBook D → List Customer → List CostLine → Type 0 where
    posts : {number cents : ℕ} {p : Posting} {r : Result (Unit {0}) book.Refusal} {b' : OpenBook D} {ls' : List CostLine} → Posts b places ls number p cents r b' ls' → Acts places b cs ls (cost number p cents) r b' cs ls'
    grants : {number load : ℕ} {r : Result (Unit {0}) book.Refusal} {b' : OpenBook D} {cs' : List Customer} → Grants b cs number load r b' cs' → Acts places b cs ls (grant number load) r b' cs' ls
    transfers : {giver receiver load : ℕ} {r : Result (Unit {0}) book.Refusal} {cs' : List Customer} → Moves cs giver receiver load r cs' → Acts places b cs ls (transfer giver receiver load) r b cs' ls

  -- The n-th line and those after it act.
  pub data Plays (places : ℕ) : OpenBook D → List Customer → List CostLine → ℕ → List Reading → Result (Open D) Fault → Type 0 where
    finished : {b : OpenBook D} {cs : List Customer} {ls : List CostLine} {n : ℕ} → Plays places b cs ls n [] (Ok (record { book = b; customers = cs; lines = ls }))
    unread : {b : OpenBook D} {cs : List Customer} {ls : List CostLine} {n : ℕ} {f : lines.Fault} {rs : List Reading} → Plays places b cs ls n (Err f ∷ rs) (Err (at_line n (Line f)))
    headed : {b : OpenBook D} {cs : List Customer} {ls : List CostLine} {n t c : ℕ} {rs : List Reading} → Plays places b cs ls n (Ok (header t c) ∷ rs) (Err (at_line n (Page HeaderPlace)))
    late : {b : OpenBook D} {cs : List Customer} {ls : List CostLine} {n : ℕ} {name : List ℕ} {f : Figures} {rs : List Reading} → Plays places b cs ls n (Ok (customer name f) ∷ rs) (Err (at_line n (Page LateCustomer)))
    acts : {b b' : OpenBook D} {cs cs' : List Customer} {ls ls' : List CostLine} {n : ℕ} {c : Contents} {rs : List Reading} {r : Result (Open D) Fault} → Acts places b cs ls c (Ok tt) b' cs' ls' → Plays places b' cs' ls' (n + 1) rs r → Plays places b cs ls n (Ok c ∷ rs) r
    refused : {b b' : OpenBook D} {cs cs' : List Customer} {ls ls' : List CostLine} {n : ℕ} {c : Contents} {rs : List Reading} {e : book.Refusal} → Acts places b cs ls c (Err e) b' cs' ls' → Plays places b cs ls n (Ok c ∷ rs) (Err (at_line n (Book e)))

module _ {D : Type 0} (m : D → Meaning) where
  -- Sheets of 512 places each.
  pub data FoundsOn (intake : Intake D) (cs : List Customer) (r : Result (OpenBook D) (Intake D × book.Refusal)) (cs' : List Customer) : Type 0 where
    founds_on : (ws ss ws' ss' : List ℕ) → length ws ≡ 512 → length ss ≡ 512 → Founds m intake cs ws ss r cs' ws' ss' → FoundsOn intake cs r cs'

  pub data ClosesOn (b : OpenBook D) (cs : List Customer) (r : Result (ClosedBook D) (OpenBook D × book.Refusal)) (cs' : List Customer) : Type 0 where
    closes_on : (ws ss ws' ss' : List ℕ) → length ws ≡ 512 → length ss ≡ 512 → Closes m b cs ws ss r cs' ws' ss' → ClosesOn b cs r cs'

  pub data BillsOn (c : ClosedBook D) (cs : List Customer) (letter : ℕ) (ch : List ℤ) (r : Result (Unit {0}) book.Refusal) (ch' : List ℤ) : Type 0 where
    bills_on : (ws ss ws' ss' : List ℕ) → length ws ≡ 512 → length ss ≡ 512 → Bills m c cs letter ws ss ch r ws' ss' ch' → BillsOn c cs letter ch r ch'

  -- Pools are billed one after the other.
  pub data BillsAll (c : ClosedBook D) (cs : List Customer) : List ℕ → List ℤ → Result (Unit {0}) book.Refusal → List ℤ → Type 0 where
    none : {ch : List ℤ} → BillsAll c cs [] ch (Ok tt) ch
    billed : {letter : ℕ} {letters : List ℕ} {ch ch' ch'' : List ℤ} {r : Result (Unit {0}) book.Refusal} → BillsOn c cs letter ch (Ok tt) ch' → BillsAll c cs letters ch' r ch'' → BillsAll c cs (letter ∷ letters) ch r ch''
    unbilled : {letter : ℕ} {letters : List ℕ} {ch ch' : List ℤ} {e : book.Refusal} → BillsOn c cs letter ch (Err e) ch' → BillsAll c cs (letter ∷ letters) ch (Err e) ch'

  -- A book is closed, and billed in C, N, S, T.
  pub data Settles (b : OpenBook D) (cs : List Customer) (ch : List ℤ) : Result (ClosedBook D) book.Refusal → List Customer → List ℤ → Type 0 where
    unclosed : {back : OpenBook D × book.Refusal} {cs' : List Customer} → ClosesOn b cs (Err back) cs' → Settles b cs ch (Err back.1) cs' ch
    unsettled : {c : ClosedBook D} {cs' : List Customer} {ch' : List ℤ} {e : book.Refusal} → ClosesOn b cs (Ok c) cs' → BillsAll c cs' (67 ∷ 78 ∷ 83 ∷ 84 ∷ []) ch (Err e) ch' → Settles b cs ch (Err e) cs' ch'
    settled : {c : ClosedBook D} {cs' : List Customer} {ch' : List ℤ} → ClosesOn b cs (Ok c) cs' → BillsAll c cs' (67 ∷ 78 ∷ 83 ∷ 84 ∷ []) ch (Ok tt) ch' → Settles b cs ch (Ok c) cs' ch'

  -- The lines after the header, where there are so many places for customers and for cost lines:
  -- customers are taken in, the book is founded, the other lines act, and at the last line it is settled.
  -- Where a fault ends this before the close, the customers that it leaves are of no further use, and free.
  pub data Leads (places line_places : ℕ) (intake : Intake D) (cs : List Customer) (ch : List ℤ) (rs : List Reading) : Result (ClosedBook D) Fault → List Customer → List ℤ → Type 0 where
    untaken : {f : Fault} {cs' : List Customer} → Takes places cs 2 rs (Err f) → Leads places line_places intake cs ch rs (Err f) cs' ch
    unfounded : {t : Taken} {back : Intake D × book.Refusal} {cs' : List Customer} → Takes places cs 2 rs (Ok t) → FoundsOn intake t.customers (Err back) cs' → Leads places line_places intake cs ch rs (Err (at_line (founding_line t) (Book back.1))) cs' ch
    unplayed : {t : Taken} {b : OpenBook D} {cs₁ cs' : List Customer} {f : Fault} → Takes places cs 2 rs (Ok t) → FoundsOn intake t.customers (Ok b) cs₁ → Plays line_places b cs₁ [] t.number t.rest (Err f) → Leads places line_places intake cs ch rs (Err f) cs' ch
    ends_refused : {t : Taken} {b : OpenBook D} {cs₁ cs' : List Customer} {o : Open D} {e : book.Refusal} {ch' : List ℤ} → Takes places cs 2 rs (Ok t) → FoundsOn intake t.customers (Ok b) cs₁ → Plays line_places b cs₁ [] t.number t.rest (Ok o) → Settles o.book o.customers ch (Err e) cs' ch' → Leads places line_places intake cs ch rs (Err (at_line (length rs + 1) (Book e))) cs' ch'
    ends : {t : Taken} {b : OpenBook D} {cs₁ cs' : List Customer} {o : Open D} {c : ClosedBook D} {ch' : List ℤ} → Takes places cs 2 rs (Ok t) → FoundsOn intake t.customers (Ok b) cs₁ → Plays line_places b cs₁ [] t.number t.rest (Ok o) → Settles o.book o.customers ch (Ok c) cs' ch' → Leads places line_places intake cs ch rs (Ok c) cs' ch'

  -- What a page comes to.
  pub data ComesTo (d : D) (page : List ℕ) : Result (Closed D) Fault → Type 0 where
    too_long : 65536 < length page → ComesTo d page (Err (at_line 0 (Page TooLong)))
    not_ended : length page ≤ 65536 → is_ended page ≡ false → ComesTo d page (Err (at_line 0 (Page Unended)))
    headless : {first : List ℕ} {rest : List (List ℕ)} {cause : Cause} → length page ≤ 65536 → is_ended page ≡ true → page_lines page ≡ first ∷ rest → Heads (line_of first) (Err cause) → ComesTo d page (Err (at_line 1 cause))
    faulted : {first : List ℕ} {rest : List (List ℕ)} {h : Header} {f : Fault} {cs : List Customer} {ch : List ℤ} → length page ≤ 65536 → is_ended page ≡ true → page_lines page ≡ first ∷ rest → Heads (line_of first) (Ok h) → Leads 512 512 (intake_of d h) [] (replicate 2048 (pos 0)) (map line_of rest) (Err f) cs ch → ComesTo d page (Err f)
    billed_page : {first : List ℕ} {rest : List (List ℕ)} {h : Header} {b : ClosedBook D} {cs : List Customer} {ch : List ℤ} → length page ≤ 65536 → is_ended page ≡ true → page_lines page ≡ first ∷ rest → Heads (line_of first) (Ok h) → Leads 512 512 (intake_of d h) [] (replicate 2048 (pos 0)) (map line_of rest) (Ok b) cs ch → ComesTo d page (Ok (record { book = b; customers = cs; charges = ch }))

  -- An outcome is the only one that a page comes to.
  abbrev pub OnlyOutcome : D → List ℕ → Result (Closed D) Fault → Type 0
  OnlyOutcome d page o = (o' : Result (Closed D) Fault) → ComesTo d page o' → o' ≡ o
