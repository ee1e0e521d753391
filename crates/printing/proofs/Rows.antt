-- Rows that are written one after the other.
use Rattle.std.proofs.Common.{◌≡◌, ℕ, ◌+◌, ◌-◌, ◌*◌, ◌≤◌, true, List, [], ◌∷◌, ◌++◌, length, min, ◌<◌, ⊎_elim, take, map, drop, ℤ, is_some, Some, Ok, Err, Option, Bor, sym, refl, ap, subst, ◌∙◌, arith}
use Rattle.std.specs.List.{All}
use Rattle.std.proofs.lemmas.List.{append-nil, append_assoc, take-append-drop, take_all, take_at, drop_at, length-append}
use Rattle.std.proofs.lemmas.Bool.{cases_lt}
use Rattle.std.proofs.lemmas.List.Elements.{All-tail}
use Rattle.register.proofs.Rising.{front_in_order}
use borrow.Rule.Slice.PartMut.{put_mid}
use Rattle.records.specs.declared.customer.Customer.{Customer}
use Rattle.register.specs.Records.{lookup, InOrder, usable, rising_front}
use Rattle.book.specs.declared.figures.Figures.{Figures}
use Rattle.book.specs.Customers.{key}
use Rattle.lines.specs.Lines.{header, customer, cost, grant, transfer, contents, line_of}
use Rattle.lines.specs.declared.line.Line.{Line}
use Rattle.lines.specs.declared.line.Line.TheVariants as line
use Rattle.rows.specs.Rows.{over, parted, parts_after, all_parts}
use Rattle.rows.proofs.Placing.{Written, written_more}
use Rattle.listing.specs.Listing.{customer_row, longest}
use Rattle.page.specs.Pages.{Reading}
use Rattle.printing.specs.Listings.{numbers, rows_of}
use Rattle.printing.specs.Steps.{CustomersFirst, Headed}

-- lines without customers have no rows
pub rows_none : (cs : List Customer) (ch : List ℤ) (rs : List Reading) → numbers rs ≡ [] → rows_of cs ch rs ≡ []
rows_none cs ch [] e = refl
rows_none cs ch (Err f ∷ rs) e = rows_none cs ch rs e
rows_none cs ch (Ok (header t h) ∷ rs) e = rows_none cs ch rs e
rows_none cs ch (Ok (customer name f) ∷ rs) e = absurd (let n : length (f.number ∷ numbers rs) ≡ 0 = ap length e in omega arith)
rows_none cs ch (Ok (cost number p cents) ∷ rs) e = rows_none cs ch rs e
rows_none cs ch (Ok (grant number load) ∷ rs) e = rows_none cs ch rs e
rows_none cs ch (Ok (transfer giver receiver load) ∷ rs) e = rows_none cs ch rs e

-- All rows, and a buffer in which they are to be written; the lines that are left, how many
-- bytes are written, and the buffer with them.
module _ (cs : List Customer) (ch : List ℤ) (all buffer : List ℕ) (most : ℕ) where
  pub record Going (rs : List Reading) (at : ℕ) (b : List ℕ) : Type 0 where
    pub first : CustomersFirst rs
    pub stand : All (λ n. is_some (lookup key n cs) ≡ true) (numbers rs)
    pub room : at + longest * (length (numbers rs) + 1) ≤ length buffer
    pub left : drop at all ≡ rows_of cs ch rs
    pub written : Written (take at all) buffer b at
    pub few : at + longest * length (numbers rs) ≤ most

  pub next_row : {name : List ℕ} {f : Figures} {rs : List Reading} {at n : ℕ} {b p : List ℕ} → Going (Ok (customer name f) ∷ rs) at b → n ≡ length (customer_row cs ch f.number name) → n ≤ longest → p ≡ over (customer_row cs ch f.number name) (take (length b - at) (drop at b)) → Going rs (at + n) (put_mid at (length b - at) b p)
  next_row {name} {f} {rs} {at} {n} {b} {p} g count short over_it =
      let row = customer_row cs ch f.number name in
      let more = rows_of cs ch rs in
      let parts : all ≡ (take at all ++ row) ++ more = sym (take-append-drop at all) ∙ ap (λ (t : List ℕ). take at all ++ t) g.left ∙ sym (append_assoc (take at all) row more) in
      let long : length (take at all ++ row) ≡ at + n = omega (arith, length-append (take at all) row, g.written.0) in
      let taken : take (at + n) all ≡ take at all ++ row = ap (take (at + n)) parts ∙ take_at (take at all ++ row) more (at + n) long in
      record {
        first = g.first;
        stand = All-tail (λ n. is_some (lookup key n cs) ≡ true) f.number (numbers rs) g.stand;
        room = omega (arith, g.room);
        left = ap (drop (at + n)) parts ∙ drop_at (take at all ++ row) more (at + n) long;
        written = rw (taken) (written_more (take at all) row buffer b p at n g.written count over_it);
        few = omega (arith, g.few);
      }

  -- nothing is left
  pub all_written : {rs : List Reading} {at : ℕ} {b : List ℕ} → Going rs at b → rows_of cs ch rs ≡ [] → (at ≡ length all) × (at ≤ most) × (b ≡ over all buffer)
  all_written {rs} {at} {b} g none =
      let whole : take at all ≡ all = sym (append-nil (take at all)) ∙ ap (λ (t : List ℕ). take at all ++ t) (sym (g.left ∙ none)) ∙ take-append-drop at all in
      (g.written.0 ∙ ap length whole, omega (arith, g.few), g.written.1 ∙ ap (λ (t : List ℕ). over t buffer) whole)

  -- the first line that is left, by what it reads as, and those after it
  pub first_left : {rest : Option (Bor (List ℕ))} {bytes : Bor (List ℕ)} {r : Reading} {at : ℕ} {b : List ℕ} (p : Bor (List ℕ) × Option (Bor (List ℕ))) → Going (map line_of (parts_after 10 rest)) at b → rest ≡ Some bytes → all_parts 10 p ≡ parted 10 bytes.now → line_of p.0.now ≡ r → Going (r ∷ map line_of (parts_after 10 p.1)) at b
  first_left {rest} {bytes} {r} {at} {b} p g is split reads =
      subst (λ (rs : List Reading). Going rs at b) (ap (λ (o : Option (Bor (List ℕ))). map line_of (parts_after 10 o)) is ∙ ap (map line_of) (sym split) ∙ ap (λ (x : Reading). x ∷ map line_of (parts_after 10 p.1)) reads) g

-- where the first is no customer's, none that is left has a row
pub no_customer : (cs : List Customer) (ch : List ℤ) (l : Line) (rs : List Reading) → ((name : _) (f : Figures) → l ≡ line.Customer name f → ⊥) → CustomersFirst (Ok (contents l) ∷ rs) → rows_of cs ch (Ok (contents l) ∷ rs) ≡ []
no_customer cs ch (line.Header t h) rs other first = rows_none cs ch rs first
no_customer cs ch (line.Customer name f) rs other first = absurd (other name f refl)
no_customer cs ch (line.Cost number p cents) rs other first = rows_none cs ch rs first
no_customer cs ch (line.Grant number load) rs other first = rows_none cs ch rs first
no_customer cs ch (line.Transfer giver receiver load) rs other first = rows_none cs ch rs first

-- a header's line has no row
pub past_header : (r : Reading) (rs : List Reading) → Headed (r ∷ rs) → CustomersFirst rs × (numbers (r ∷ rs) ≡ numbers rs) × ((cs : List Customer) (ch : List ℤ) → rows_of cs ch (r ∷ rs) ≡ rows_of cs ch rs)
past_header (Err f) rs h = absurd h
past_header (Ok (header t c)) rs h = (h, refl, λ cs ch. refl)
past_header (Ok (customer name f)) rs h = absurd h
past_header (Ok (cost number p cents)) rs h = absurd h
past_header (Ok (grant number load)) rs h = absurd h
past_header (Ok (transfer giver receiver load)) rs h = absurd h

-- the customers that stand in a memory of 512 places
pub standing : (cs : List Customer) (n : ℕ) → length cs ≡ 512 → InOrder key (take n cs) → rising_front key (take (min n (usable cs)) cs) ≡ take n cs
standing cs n long ordered =
    ⊎_elim
    (λ (lt : 512 < n).
    let all : min n (usable cs) ≡ 512 = omega arith in
    let same : take (min n (usable cs)) cs ≡ take n cs = ap (λ (k : ℕ). take k cs) all ∙ take_all 512 cs (omega arith) ∙ sym (take_all n cs (omega arith)) in
    ap (rising_front key) same ∙ front_in_order key (take n cs) ordered)
    (λ (le : n ≤ 512).
    let few : min n (usable cs) ≡ n = omega arith in
    let same : take (min n (usable cs)) cs ≡ take n cs = ap (λ (k : ℕ). take k cs) few in
    ap (rising_front key) same ∙ front_in_order key (take n cs) ordered)
    (cases_lt 512 n)
