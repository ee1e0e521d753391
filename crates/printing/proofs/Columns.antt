-- Each customer of a page has one row, and the columns add up.
use Rattle.std.proofs.Common.{◌≡◌, ℕ, ◌*◌, ◌≤◌, true, List, [], ◌∷◌, map, length, take, drop, is_some, ℤ, Ok, Err, sum_by, Result, sym, refl, ap, ◌∙◌, subst, arith}
use Rattle.std.specs.List.Sorted.{IsPermutation}
use Rattle.std.proofs.lemmas.List.{length-map, get_or-drop, take_all}
use Rattle.std.proofs.lemmas.List.Sorted.{IsPermutation-sym, length_permutation, All-permutation}
use Rattle.units.specs.declared.header.Header.{Header}
use Rattle.register.specs.Records.{lookup, InOrder, Rising}
use Rattle.records.specs.declared.customer.Customer.{Customer}
use Rattle.records.specs.declared.pool.Pool.{Pool}
use Rattle.records.specs.declared.pool.Pool.TheVariants.{Composite, NonSlice, Slice, Tier2}
use Rattle.records.specs.Figures.{above_rhwm}
use Rattle.records.specs.Pools.{order}
use Rattle.book.specs.Customers.{key, nobody}
use Rattle.book.specs.Rates.{Meaning}
use Rattle.book.specs.declared.stages.Intake.{Intake}
use Rattle.book.specs.declared.stages.ClosedBook.{ClosedBook}
use Rattle.lines.specs.Lines.{header, customer, cost, grant, transfer, line_of}
use Rattle.runs.specs.Runs.{sumℤ, charges_in, LawfulMeaning}
use Rattle.page.specs.declared.fault.Fault.{Fault}
use Rattle.page.specs.Pages as page
use Rattle.page.specs.Pages.{Reading, Closed, Heads, Leads, Settles, ComesTo, page_lines}
use Rattle.page.proofs.Adding.{page_adds_up}
use Rattle.printing.specs.Listings.{numbers, charged, ListingAddsUp}
use Rattle.printing.specs.Steps.{CustomersFirst, Headed, Listable}
use Rattle.printing.proofs.Numbers.{all_found, sumℤ-four, sum_by-column, sumℤ-column}
use Rattle.printing.proofs.Taking.{takes_numbers, takes_ordered, takes_few, takes_first, plays_none, plays_numbers, founds_numbers, settles_numbers}

-- The customers that stand are those of some numbers, in rising order, and not too many.
record Stand (ns : List ℕ) (cs : List Customer) : Type 0 where
  all : IsPermutation (map key cs) ns
  ordered : InOrder key cs
  few : length cs ≤ 512

-- a header's line is no customer's
heads_no_customer : (r : Reading) (h : Header) (rs : List Reading) → Heads r (Ok h) → CustomersFirst rs → Headed (r ∷ rs) × (numbers (r ∷ rs) ≡ numbers rs)
heads_no_customer (Err f) h rs is first = absurd (cc)
heads_no_customer (Ok (header t c)) h rs is first = (first, refl)
heads_no_customer (Ok (customer name f)) h rs is first = absurd (cc)
heads_no_customer (Ok (cost number p cents)) h rs is first = absurd (cc)
heads_no_customer (Ok (grant number load)) h rs is first = absurd (cc)
heads_no_customer (Ok (transfer giver receiver load)) h rs is first = absurd (cc)

module _ {D : Type 0} (m : D → Meaning) where
  -- the lines after the header leave the customers of all their lines standing
  leads_stand : {intake : Intake D} {ch ch' : List ℤ} {rs : List Reading} {c : ClosedBook D} {cs : List Customer} → Leads m 512 512 intake [] ch rs (Ok c) cs ch' → CustomersFirst rs × Stand (numbers rs) cs
  leads_stand {rs = rs} {cs = cs} (page.ends {t = t} taken founds plays settles) =
      let same : map key cs ≡ map key t.customers = settles_numbers settles ∙ plays_numbers plays ∙ founds_numbers founds in
      let none = plays_none plays in
      let count : length (map key cs) ≡ length (map key t.customers) = ap length same in (
        takes_first taken none,
        record {
          all = rw same (IsPermutation-sym (numbers rs) (map key t.customers) (takes_numbers taken none));
          ordered = subst Rising (sym same) (takes_ordered taken tt);
          few = omega (arith, length-map cs key, length-map t.customers key, takes_few taken (omega arith));
        },
      )

  -- and so does the whole page
  comes_stand : (d : D) (bytes : List ℕ) (c : Closed D) → ComesTo m d bytes (Ok c) → Headed (map line_of (page_lines bytes)) × Stand (numbers (map line_of (page_lines bytes))) c.customers
  comes_stand d bytes c (page.billed_page {first = first} {rest = rest} {h = h} le ended lines heads leads) =
      let after = leads_stand leads in
      let head = heads_no_customer (line_of first) h (map line_of rest) heads after.0 in
      rw (lines, head.1) (head.0, after.1)

  -- A billed page can be listed: the customers of all its lines stand, in rising order, and their lines come first after the header.
  pub comes_listable : (d : D) (bytes : List ℕ) (c : Closed D) → ComesTo m d bytes (Ok c) → Listable (map line_of (page_lines bytes)) c
  comes_listable d bytes c comes =
      let ns = numbers (map line_of (page_lines bytes)) in
      let stand = comes_stand d bytes c comes in
      record {
        headed = stand.0;
        stand = All-permutation (λ n. is_some (lookup key n c.customers) ≡ true) (map key c.customers) ns stand.1.all (all_found key c.customers);
        few = omega (arith, length_permutation (map key c.customers) ns stand.1.all, length-map c.customers key, stand.1.few);
        ordered = stand.1.ordered;
        count = stand.1.few;
      }

  -- Each of its customers has one row, and the columns of the rows add up.
  pub comes_adds_up : ((d : D) → LawfulMeaning (m d)) → (d : D) (bytes : List ℕ) (r : Result (Closed D) Fault) → ComesTo m d bytes r → ListingAddsUp bytes r
  comes_adds_up fair d bytes (Err f) comes = tt
  comes_adds_up fair d bytes (Ok c) comes =
      let cs = c.customers in
      let n = length cs in
      let ns = numbers (map line_of (page_lines bytes)) in
      let stand = (comes_stand d bytes c comes).1 in
      let sums = page_adds_up m fair d bytes (Ok c) comes in
      let whole : take n cs ≡ cs = take_all n cs (omega arith) in
      let column = sum_by-column key cs stand.ordered ns stand.all in
      let charges : (p : Pool) → sumℤ (map (charged c p) ns) ≡ sumℤ (charges_in p n c.charges) = λ p. simp get_or-drop at (sumℤ-column key cs stand.ordered ns stand.all (drop (order p * n) c.charges)) in
      record {
        customers = stand.all;
        marks = column (λ (x : Customer). x.mark) nobody refl cs ∙ ap (sum_by (λ (x : Customer). x.mark)) whole ∙ sums.marks;
        rhwms = column (λ (x : Customer). x.rhwm) nobody refl cs ∙ ap (sum_by (λ (x : Customer). x.rhwm)) whole ∙ sums.rhwms;
        above = column above_rhwm nobody refl cs ∙ ap (sum_by above_rhwm) whole;
        charges = λ p. charges p ∙ sums.charges p;
        costs = sums.costs;
        together = sumℤ-four (charged c Composite) (charged c NonSlice) (charged c Slice) (charged c Tier2) ns ∙ rw (charges Composite, charges NonSlice, charges Slice, charges Tier2) sums.together;
      }
