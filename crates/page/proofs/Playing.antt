-- One line after the other.
use Rattle.std.proofs.Common.{◌≡◌, ℕ, ◌+◌, ◌≤◌, Bool, true, false, List, ◌∷◌, map, length, Ok, Err, Result, sym, refl, ap, ◌∙◌, subst, arith, Bor}
use Rattle.records.specs.declared.customer.Customer.{Customer}
use Rattle.records.specs.declared.cost_line.CostLine.{CostLine}
use Rattle.book.specs.declared.figures.Figures.{Figures}
use Rattle.book.specs.Customers.{Enters}
use Rattle.book.specs.declared.stages.OpenBook.{OpenBook}
use Rattle.lines.specs.Lines.{Contents, header, customer, cost, grant, transfer, line_of}
use Rattle.page.specs.declared.fault.Cause.{Cause}
use Rattle.page.specs.declared.fault.Cause.TheVariants.{Page, Line, Book}
use Rattle.page.specs.declared.fault.Fault.{Fault}
use Rattle.page.specs.Remaining.{FirstOf}
use Rattle.page.specs.Pages.{Reading, at_line, Taken, Takes, no_more, not_read, second_header, enters, not_entered, others, Open, Acts, Plays, unread, headed, late, acts, refused}
use Rattle.page.specs.Steps.{Answered, LineEnters, LineActs}

never_ok : {X E : Type 0} {A : Type 0} (x : X) (e : E) → ◌≡◌ {A = Result X E} (Ok x) (Err e) → A
never_ok x e is = let z : ◌≡◌ {A = ℕ} 0 1 = cc in absurd (omega arith)

same_cause : (d e : Cause) → ◌≡◌ {A = Result (Unit {0}) Cause} (Err d) (Err e) → d ≡ e
same_cause d e is = cc

not_false : {A : Type 0} → ◌≡◌ {A = Result Bool Cause} (Ok true) (Ok false) → A
not_false is = let z : ◌≡◌ {A = ℕ} 0 1 = cc in absurd (omega arith)

never_err : {A : Type 0} (e : Cause) → ◌≡◌ {A = Result Bool Cause} (Err e) (Ok false) → A
never_err e is = let z : ◌≡◌ {A = ℕ} 0 1 = cc in absurd (omega arith)

same_refusal : (d e : Cause) → ◌≡◌ {A = Result Bool Cause} (Err d) (Err e) → d ≡ e
same_refusal d e is = cc

module _ {D : Type 0} (places : ℕ) (b : OpenBook D) (cs : List Customer) (ls : List CostLine) (n : ℕ) (rs : List Reading) (b' : OpenBook D) (cs' : List Customer) (ls' : List CostLine) where
  play_acts : (reading : Reading) (u : Unit {0}) → LineActs places b cs ls reading (Ok u) b' cs' ls' → (o : Result (Open D) Fault) → Plays places b' cs' ls' (n + 1) rs o → Plays places b cs ls n (reading ∷ rs) o
  play_acts (Err f) u line o p = never_ok u (Line f) line.answer
  play_acts (Ok (header t c)) u line o p = never_ok u _ line.answer
  play_acts (Ok (customer name f)) u line o p = never_ok u _ line.answer
  play_acts (Ok (cost number q cents)) u line o p = acts line.1 p
  play_acts (Ok (grant number load)) u line o p = acts line.1 p
  play_acts (Ok (transfer giver receiver load)) u line o p = acts line.1 p

  book_refuses : (c : Contents) (cause : Cause) → Answered {X = Unit {0}} (λ a. Acts places b cs ls c a b' cs' ls') tt (Err cause) → Plays places b cs ls n (Ok c ∷ rs) (Err (at_line n cause))
  book_refuses c (Page e) s = absurd s
  book_refuses c (Line e) s = absurd s
  book_refuses c (Book e) s = refused s

  play_refuses : (reading : Reading) (cause : Cause) → LineActs places b cs ls reading (Err cause) b' cs' ls' → Plays places b cs ls n (reading ∷ rs) (Err (at_line n cause))
  play_refuses (Err f) cause line =
      subst (λ c. Plays places b cs ls n (Err f ∷ rs) (Err (at_line n c))) (sym (same_cause cause _ line.answer)) unread
  play_refuses (Ok (header t c)) cause line =
      subst (λ d. Plays places b cs ls n (Ok (header t c) ∷ rs) (Err (at_line n d))) (sym (same_cause cause _ line.answer)) headed
  play_refuses (Ok (customer name f)) cause line =
      subst (λ d. Plays places b cs ls n (Ok (customer name f) ∷ rs) (Err (at_line n d))) (sym (same_cause cause _ line.answer)) late
  play_refuses (Ok (cost number q cents)) cause line = book_refuses (cost number q cents) cause line
  play_refuses (Ok (grant number load)) cause line = book_refuses (grant number load) cause line
  play_refuses (Ok (transfer giver receiver load)) cause line = book_refuses (transfer giver receiver load) cause line

-- the first line acts, and then the others, or it is refused
module _ {D : Type 0} (places places' : ℕ) (b : OpenBook D) (cs : List Customer) (ls : List CostLine) (n : ℕ) (lines : List (List ℕ)) (first : ℕ × Bor (List ℕ)) (n' : ℕ) (lines' : List (List ℕ)) (r : Result (Unit {0}) Cause) (b' : OpenBook D) (cs' : List Customer) (ls' : List CostLine) (f : FirstOf n lines first n' lines') (line : LineActs places b cs ls (line_of first.1.now) r b' cs' ls') where
  pub first_acts : (u : Unit {0}) → r ≡ Ok u → places' ≡ places → (o : Result (Open D) Fault) → Plays places' b' cs' ls' n' (map line_of lines') o → Plays places b cs ls n (map line_of lines) o
  first_acts u is same o p =
      subst (λ ps. Plays places b cs ls n (map line_of ps) o) (sym f.parts) (play_acts places b cs ls n (map line_of lines') b' cs' ls' (line_of first.1.now) u (subst (λ a. LineActs places b cs ls (line_of first.1.now) a b' cs' ls') is line) o (subst (λ k. Plays places b' cs' ls' k (map line_of lines') o) f.next (subst (λ q. Plays q b' cs' ls' n' (map line_of lines') o) same p)))

  pub first_refused : (cause : Cause) (fault : Fault) → r ≡ Err cause → fault ≡ at_line first.0 cause → Plays places b cs ls n (map line_of lines) (Err fault)
  first_refused cause fault is at =
      subst (λ d. Plays places b cs ls n (map line_of lines) (Err d)) (sym (at ∙ ap (λ k. at_line k cause) f.number)) (subst (λ ps. Plays places b cs ls n (map line_of ps) (Err (at_line n cause))) (sym f.parts) (play_refuses places b cs ls n (map line_of lines') b' cs' ls' (line_of first.1.now) cause (subst (λ a. LineActs places b cs ls (line_of first.1.now) a b' cs' ls') is line)))

-- customers' lines
module _ (places : ℕ) (cs : List Customer) (n : ℕ) (rs : List Reading) (cs' : List Customer) where
  take_enters : (reading : Reading) → LineEnters places cs reading (Ok true) cs' → (o : Result Taken Fault) → Takes places cs' (n + 1) rs o → Takes places cs n (reading ∷ rs) o
  take_enters (Err f) line o t = never_ok true _ line.0
  take_enters (Ok (header a c)) line o t = never_ok true _ line.0
  take_enters (Ok (customer name f)) line o t = enters line.1 t
  take_enters (Ok (cost number q cents)) line o t = not_false line.0
  take_enters (Ok (grant number load)) line o t = not_false line.0
  take_enters (Ok (transfer giver receiver load)) line o t = not_false line.0

  take_stops : (reading : Reading) → LineEnters places cs reading (Ok false) cs' → Takes places cs n (reading ∷ rs) (Ok (record { customers = cs'; number = n; rest = reading ∷ rs }))
  take_stops (Err f) line = never_ok false _ line.0
  take_stops (Ok (header a c)) line = never_ok false _ line.0
  take_stops (Ok (customer name f)) line = let e = line.0 in let z : ◌≡◌ {A = ℕ} 0 1 = cc in absurd (omega arith)
  take_stops (Ok (cost number q cents)) line =
      subst (λ ds. Takes places cs n (Ok (cost number q cents) ∷ rs) (Ok (record { customers = ds; number = n; rest = Ok (cost number q cents) ∷ rs }))) (sym line.1) (others tt)
  take_stops (Ok (grant number load)) line =
      subst (λ ds. Takes places cs n (Ok (grant number load) ∷ rs) (Ok (record { customers = ds; number = n; rest = Ok (grant number load) ∷ rs }))) (sym line.1) (others tt)
  take_stops (Ok (transfer giver receiver load)) line =
      subst (λ ds. Takes places cs n (Ok (transfer giver receiver load) ∷ rs) (Ok (record { customers = ds; number = n; rest = Ok (transfer giver receiver load) ∷ rs }))) (sym line.1) (others tt)

  enter_refuses : (name : List ℕ) (f : Figures) (cause : Cause) → Answered {X = Bool} (λ a. Enters places cs f a cs') true (Err cause) → Takes places cs n (Ok (customer name f) ∷ rs) (Err (at_line n cause))
  enter_refuses name f (Page e) s = absurd s
  enter_refuses name f (Line e) s = absurd s
  enter_refuses name f (Book e) s = not_entered s

  take_refuses : (reading : Reading) (cause : Cause) → LineEnters places cs reading (Err cause) cs' → Takes places cs n (reading ∷ rs) (Err (at_line n cause))
  take_refuses (Err f) cause line =
      subst (λ c. Takes places cs n (Err f ∷ rs) (Err (at_line n c))) (sym (same_refusal cause _ line.0)) not_read
  take_refuses (Ok (header a c)) cause line =
      subst (λ d. Takes places cs n (Ok (header a c) ∷ rs) (Err (at_line n d))) (sym (same_refusal cause _ line.0)) second_header
  take_refuses (Ok (customer name f)) cause line = enter_refuses name f cause line
  take_refuses (Ok (cost number q cents)) cause line = never_err cause line.0
  take_refuses (Ok (grant number load)) cause line = never_err cause line.0
  take_refuses (Ok (transfer giver receiver load)) cause line = never_err cause line.0

-- the first line enters a customer, or is the first that does not, or is refused
module _ (places places' : ℕ) (cs : List Customer) (n : ℕ) (lines : List (List ℕ)) (first : ℕ × Bor (List ℕ)) (n' : ℕ) (lines' : List (List ℕ)) (r : Result Bool Cause) (cs' : List Customer) (f : FirstOf n lines first n' lines') (line : LineEnters places cs (line_of first.1.now) r cs') where
  pub first_enters : r ≡ Ok true → places' ≡ places → (o : Result Taken Fault) → Takes places' cs' n' (map line_of lines') o → Takes places cs n (map line_of lines) o
  first_enters is same o t =
      subst (λ ps. Takes places cs n (map line_of ps) o) (sym f.parts) (take_enters places cs n (map line_of lines') cs' (line_of first.1.now) (subst (λ a. LineEnters places cs (line_of first.1.now) a cs') is line) o (subst (λ k. Takes places cs' k (map line_of lines') o) f.next (subst (λ q. Takes q cs' n' (map line_of lines') o) same t)))

  pub first_stops : r ≡ Ok false → Takes places cs n (map line_of lines) (Ok (record { customers = cs'; number = n; rest = map line_of lines }))
  first_stops is =
      subst (λ ps. Takes places cs n (map line_of ps) (Ok (record { customers = cs'; number = n; rest = map line_of ps }))) (sym f.parts) (take_stops places cs n (map line_of lines') cs' (line_of first.1.now) (subst (λ a. LineEnters places cs (line_of first.1.now) a cs') is line))

  pub first_unentered : (cause : Cause) (fault : Fault) → r ≡ Err cause → fault ≡ at_line first.0 cause → Takes places cs n (map line_of lines) (Err fault)
  first_unentered cause fault is at =
      subst (λ d. Takes places cs n (map line_of lines) (Err d)) (sym (at ∙ ap (λ k. at_line k cause) f.number)) (subst (λ ps. Takes places cs n (map line_of ps) (Err (at_line n cause))) (sym f.parts) (take_refuses places cs n (map line_of lines') cs' (line_of first.1.now) cause (subst (λ a. LineEnters places cs (line_of first.1.now) a cs') is line)))

-- no line is lost
pub takes_counts : {places : ℕ} {cs : List Customer} {n : ℕ} {rs : List Reading} {t : Taken} → Takes places cs n rs (Ok t) → (n ≤ t.number) × (t.number + length t.rest ≡ n + length rs)
takes_counts no_more = (omega arith, refl)
takes_counts (enters e more) = let m = takes_counts more in (omega (arith, m.0), omega (arith, m.1))
takes_counts (others k) = (omega arith, refl)
