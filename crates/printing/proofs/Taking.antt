-- What a page's lines do to the numbers of its customers.
use Rattle.std.proofs.Common.{◌≡◌, ℕ, ◌+◌, ◌<◌, ◌≤◌, List, [], ◌∷◌, ◌++◌, map, length, None, Ok, ℤ, sym, refl, ap, ◌∙◌, subst, append-nil, append_assoc, arith}
use Rattle.std.specs.List.Sorted.{IsPermutation}
use Rattle.std.proofs.lemmas.Bool.{cond_both}
use Rattle.std.proofs.lemmas.Bool.Decides.{nat_tests}
use Rattle.std.proofs.lemmas.List.Sorted.{IsPermutation-refl, IsPermutation-trans, IsPermutation-append_left}
use Rattle.register.specs.Records.{lookup, added, InOrder}
use Rattle.register.proofs.Lookups.{length-added, numbers_replaced}
use Rattle.register.proofs.Order.{ordered_added}
use Rattle.records.specs.declared.customer.Customer.{Customer}
use Rattle.records.specs.declared.cost_line.CostLine.{CostLine}
use Rattle.book.specs.declared.figures.Figures.{Figures}
use Rattle.book.specs.declared.stages.Intake.{Intake}
use Rattle.book.specs.declared.stages.OpenBook.{OpenBook}
use Rattle.book.specs.declared.stages.ClosedBook.{ClosedBook}
use Rattle.book.specs.Customers.{key, entered, enter_asks, Enters, marked, rated, with_shares, founded_by, rated_by}
use Rattle.book.specs.Marks.{land_asks, landed}
use Rattle.book.specs.Rates.{Meaning, passes, found_asks, close_asks}
use Rattle.records.specs.Figures.{founding_weight}
use Rattle.lines.specs.Lines as lines
use Rattle.runs.proofs.Asked.{accepted}
use Rattle.page.specs.Pages as page
use Rattle.page.specs.Pages.{Reading, Taken, Open, Takes, Acts, Plays, FoundsOn, ClosesOn, Settles}
use Rattle.printing.specs.Listings.{numbers}
use Rattle.printing.specs.Steps.{CustomersFirst}
use Rattle.printing.proofs.Numbers.{numbers_added}

-- A customer that is entered has a new number, and there was a place for it.
record New (places : ℕ) (cs : List Customer) (f : Figures) (cs' : List Customer) : Type 0 where
  free : length cs < places
  new : lookup key f.number cs ≡ None
  after : cs' ≡ added key (entered f) cs

enters_new : {places : ℕ} {cs cs' : List Customer} {f : Figures} → Enters places cs f (Ok tt) cs' → New places cs f cs'
enters_new {places} {cs} {cs'} {f} s =
    let asks : enter_asks places cs f ≡ None = accepted tt tt (enter_asks places cs f) s.answer in
    record { free = grind (arith, nat_tests); new = grind (arith, nat_tests); after = s.after }

-- no more numbers leave the numbers as they are
none_more : (ms ns : List ℕ) → ns ≡ [] → IsPermutation (ms ++ ns) ms
none_more ms ns none = subst (λ ks. IsPermutation ks ms) (sym (ap (λ ks. ms ++ ks) none ∙ append-nil ms)) (IsPermutation-refl ms)

-- After customers are taken in, those stand that stood before and those of the lines,
pub takes_numbers : {places : ℕ} {cs : List Customer} {n : ℕ} {rs : List Reading} {t : Taken} → Takes places cs n rs (Ok t) → numbers t.rest ≡ [] → IsPermutation (map key cs ++ numbers rs) (map key t.customers)
takes_numbers {cs = cs} page.no_more none = none_more (map key cs) [] refl
takes_numbers {cs = cs} {t = t} (page.enters {cs' = cs'} {f = f} {rs = rs} k more) none =
    let is = enters_new k in
    let one = numbers_added key (entered f) cs in
    let front = IsPermutation-append_left (numbers rs) (map key cs ++ f.number ∷ []) (map key (added key (entered f) cs)) one in
    let step : IsPermutation (map key cs ++ f.number ∷ numbers rs) (map key cs' ++ numbers rs) = rw is.after (rw append_assoc at front) in
    IsPermutation-trans (map key cs ++ f.number ∷ numbers rs) (map key cs' ++ numbers rs) (map key t.customers) step (takes_numbers more none)
takes_numbers {cs = cs} (page.others {c = c} {rs = rs} k) none = none_more (map key cs) (numbers (Ok c ∷ rs)) none

-- in rising order,
pub takes_ordered : {places : ℕ} {cs : List Customer} {n : ℕ} {rs : List Reading} {t : Taken} → Takes places cs n rs (Ok t) → InOrder key cs → InOrder key t.customers
takes_ordered page.no_more o = o
takes_ordered {cs = cs} (page.enters {f = f} k more) o =
    let is = enters_new k in
    takes_ordered more (subst (InOrder key) (sym is.after) (ordered_added key (entered f) cs is.new o))
takes_ordered (page.others k) o = o

-- and no more than there are places for.
pub takes_few : {places : ℕ} {cs : List Customer} {n : ℕ} {rs : List Reading} {t : Taken} → Takes places cs n rs (Ok t) → length cs ≤ places → length t.customers ≤ places
takes_few page.no_more few = few
takes_few {cs = cs} (page.enters {cs' = cs'} {f = f} k more) few =
    let is = enters_new k in
    let long : length cs' ≡ length cs + 1 = ap length is.after ∙ length-added key (entered f) cs in
    takes_few more (omega (arith, is.free))
takes_few (page.others k) few = few

-- Where no line that is left is a customer's, the customers' lines stand before all others.
pub takes_first : {places : ℕ} {cs : List Customer} {n : ℕ} {rs : List Reading} {t : Taken} → Takes places cs n rs (Ok t) → numbers t.rest ≡ [] → CustomersFirst rs
takes_first page.no_more none = tt
takes_first (page.enters k more) none = takes_first more none
takes_first (page.others {c = lines.header t h} k) none = absurd k
takes_first (page.others {c = lines.customer name f} k) none = absurd k
takes_first (page.others {c = lines.cost number p cents} k) none = none
takes_first (page.others {c = lines.grant number load} k) none = none
takes_first (page.others {c = lines.transfer giver receiver load} k) none = none

-- what a book writes into the records of customers leaves their numbers
numbers_with : (w : Customer → ℕ → Customer) → ((c : Customer) (s : ℕ) → key (w c s) ≡ key c) → (ss : List ℕ) (cs : List Customer) → map key (with_shares w ss cs) ≡ map key cs
numbers_with w same ss [] = refl
numbers_with w same [] (c ∷ cs) = refl
numbers_with w same (s ∷ ss) (c ∷ cs) = cc (same c s, numbers_with w same ss cs)

module _ {D : Type 0} where
  -- so does a line that acts
  acts_numbers : {places : ℕ} {b b' : OpenBook D} {cs cs' : List Customer} {ls ls' : List CostLine} {c : lines.Contents} → Acts places b cs ls c (Ok tt) b' cs' ls' → map key cs' ≡ map key cs
  acts_numbers (page.posts k) = refl
  acts_numbers {cs = cs} (page.grants k) = ap (map key) k.after ∙ numbers_replaced key _ cs
  acts_numbers {cs = cs} (page.transfers {receiver = receiver} (page.lands {p = p} {cs' = between} k l)) =
      let asks : land_asks between p receiver ≡ None = accepted tt tt (land_asks between p receiver) l.answer in
      let is = l.after ∙ ap (landed between p receiver) asks in
      ap (map key) is ∙ numbers_replaced key _ _ ∙ numbers_replaced key _ between ∙ ap (map key) k.after ∙ numbers_replaced key _ cs

  -- a line that acts is no customer's
  acts_none : {places : ℕ} {b b' : OpenBook D} {cs cs' : List Customer} {ls ls' : List CostLine} {c : lines.Contents} (rs : List Reading) → Acts places b cs ls c (Ok tt) b' cs' ls' → numbers rs ≡ [] → numbers (Ok c ∷ rs) ≡ []
  acts_none rs (page.posts k) none = none
  acts_none rs (page.grants k) none = none
  acts_none rs (page.transfers k) none = none

  -- No customer's line is among those that act, and they leave the customers' numbers as they are.
  pub plays_none : {places : ℕ} {b : OpenBook D} {cs : List Customer} {ls : List CostLine} {n : ℕ} {rs : List Reading} {o : Open D} → Plays places b cs ls n rs (Ok o) → numbers rs ≡ []
  plays_none page.finished = refl
  plays_none (page.acts {rs = rs} k more) = acts_none rs k (plays_none more)

  pub plays_numbers : {places : ℕ} {b : OpenBook D} {cs : List Customer} {ls : List CostLine} {n : ℕ} {rs : List Reading} {o : Open D} → Plays places b cs ls n rs (Ok o) → map key o.customers ≡ map key cs
  plays_numbers page.finished = refl
  plays_numbers (page.acts k more) = plays_numbers more ∙ acts_numbers k

  -- So do the founding, the close and the bills.
  pub founds_numbers : {m : D → Meaning} {intake : Intake D} {cs cs' : List Customer} {b : OpenBook D} → FoundsOn m intake cs (Ok b) cs' → map key cs' ≡ map key cs
  founds_numbers {m} {intake} {cs} (page.founds_on ws ss ws' ss' lw ls k) =
      let shares = m intake.divider intake.header.founding_total (map founding_weight cs) in
      ap (map key) k.after ∙ cond_both (passes (found_asks m intake cs ws ss)) (founded_by shares cs) cs (λ (t : List Customer). map key t ≡ map key cs)
      (λ _. numbers_with (λ c s. marked c s 0) (λ c s. refl) shares cs) (λ _. refl)

  closes_numbers : {m : D → Meaning} {b : OpenBook D} {cs cs' : List Customer} {c : ClosedBook D} → ClosesOn m b cs (Ok c) cs' → map key cs' ≡ map key cs
  closes_numbers {m} {b} {cs} (page.closes_on ws ss ws' ss' lw ls k) =
      let shares = m b.divider b.header.capability (map (λ (c : Customer). c.mark) cs) in
      ap (map key) k.after ∙ cond_both (passes (close_asks m b cs ws ss)) (rated_by shares cs) cs (λ (t : List Customer). map key t ≡ map key cs)
      (λ _. numbers_with rated (λ c s. refl) shares cs) (λ _. refl)

  pub settles_numbers : {m : D → Meaning} {b : OpenBook D} {cs cs' : List Customer} {ch ch' : List ℤ} {c : ClosedBook D} → Settles m b cs ch (Ok c) cs' ch' → map key cs' ≡ map key cs
  settles_numbers (page.settled k bills) = closes_numbers k
