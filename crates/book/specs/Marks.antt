-- Grants of mark, and transfers: lift, land, return.
use Rattle.std.specs.Prelude.{◌≡◌, ℕ, ◌+◌, ◌-◌, Bool, false, cond, not, ◌||◌, List, [], ◌∷◌, is_ok, Some, None, Option, Result, ◌==◌, nat_le, nat_lt}
use Rattle.register.specs.Records.{replaced}
use Rattle.records.specs.declared.customer.Customer.{Customer}
use Rattle.book.specs.declared.parcel.Parcel.{Parcel}
use Rattle.book.specs.declared.refusal.Refusal.{Refusal}
use Rattle.book.specs.declared.refusal.Refusal.TheVariants.{Missing, NoLoad, OverGranted, Spoiled, AlreadyLifted, OverMark, NotOnTheWay, NoReceiver, SameCustomer}
use Rattle.book.specs.declared.stages.OpenBook.{OpenBook}
use Rattle.book.specs.Answers.{number, first, told}
use Rattle.book.specs.Books.{granting}
use Rattle.book.specs.Customers.{key, customer, stands, marked}

-- The most load that the grants of a book add up to, and the most on a mark.
abbrev pub most_granted : ℕ
most_granted = 50000

abbrev pub most_mark : ℕ
most_mark = 20050000

-- With another mark and load on the way in a customer's record.
abbrev pub remarked : List Customer → Customer → ℕ → ℕ → List Customer
remarked customers c mark transit = replaced key (marked c mark transit) customers

abbrev pub grant_asks : ℕ → List Customer → ℕ → ℕ → Option Refusal
grant_asks granted customers n load =
    first (
    (stands customers n, Missing)
    ∷ (nat_lt 0 load, NoLoad)
    ∷ (nat_le (granted + load) most_granted, OverGranted)
    ∷ (nat_le ((customer customers n).mark + load) most_mark, Spoiled)
    ∷ []
    )

-- A grant adds a load to a customer's mark.
pub record Grants {D : Type 0} (b : OpenBook D) (customers : List Customer) (n load : ℕ) (r : Result (Unit {0}) Refusal) (b' : OpenBook D) (customers' : List Customer) : Type 0 where
  pub answer : r ≡ told tt (grant_asks b.granted customers n load)
  pub book : b' ≡ cond (is_ok r) (granting b load) b
  pub after : customers' ≡ cond (is_ok r) (remarked customers (customer customers n) ((customer customers n).mark + load) (customer customers n).transit) customers

abbrev pub lift_asks : List Customer → ℕ → ℕ → Option Refusal
lift_asks customers n load =
    first (
    (stands customers n, Missing)
    ∷ (nat_lt 0 load, NoLoad)
    ∷ (((customer customers n).transit == 0), AlreadyLifted)
    ∷ (nat_le load (customer customers n).mark, OverMark)
    ∷ []
    )

-- A lift takes a load off the giver's mark, notes it as on the way, and answers a parcel.
pub record Lifts (customers : List Customer) (n load : ℕ) (r : Result Parcel Refusal) (customers' : List Customer) : Type 0 where
  pub answer : r ≡ told (record { giver = n; spent = false }) (lift_asks customers n load)
  pub after : customers' ≡ cond (is_ok r) (remarked customers (customer customers n) ((customer customers n).mark - load) load) customers

-- The load on the way from a parcel's giver.
abbrev pub carried : List Customer → Parcel → ℕ
carried customers p = (customer customers p.giver).transit

-- The load is on the giver's mark again.
abbrev pub home : List Customer → Parcel → List Customer
home customers p =
    remarked customers (customer customers p.giver) ((customer customers p.giver).mark + carried customers p) 0

-- Whether there is room for it there.
abbrev pub home_fits : List Customer → Parcel → Bool
home_fits customers p = nat_le ((customer customers p.giver).mark + carried customers p) most_mark

-- The load is on the receiver's mark.
abbrev pub moved : List Customer → Parcel → ℕ → List Customer
moved customers p receiver =
    remarked (remarked customers (customer customers p.giver) (customer customers p.giver).mark 0) (customer customers receiver) ((customer customers receiver).mark + carried customers p) (customer customers receiver).transit

-- What a refusal that sends the load home gives: where there is no room for it, the register is spoiled.
abbrev pub sent_home : List Customer → Parcel → Refusal → Refusal
sent_home customers p e = cond (home_fits customers p) e Spoiled

abbrev pub land_asks : List Customer → Parcel → ℕ → Option Refusal
land_asks customers p receiver =
    first (
    (nat_lt 0 (carried customers p), NotOnTheWay)
    ∷ (stands customers receiver, sent_home customers p NoReceiver)
    ∷ (not (receiver == p.giver), sent_home customers p SameCustomer)
    ∷ (nat_le ((customer customers receiver).mark + carried customers p) most_mark, Spoiled)
    ∷ []
    )

-- Where the load is after a landing: after 31 and 32 it is on the giver's mark again.
abbrev pub landed : List Customer → Parcel → ℕ → Option Refusal → List Customer
landed customers p receiver None = moved customers p receiver
landed customers p receiver (Some e) = cond (number e == 31 || number e == 32) (home customers p) customers

-- A landing adds the giver's load on the way to the receiver's mark.
pub record Lands (customers : List Customer) (p : Parcel) (receiver : ℕ) (r : Result (Unit {0}) Refusal) (customers' : List Customer) : Type 0 where
  pub answer : r ≡ told tt (land_asks customers p receiver)
  pub after : customers' ≡ landed customers p receiver (land_asks customers p receiver)

abbrev pub return_asks : List Customer → Parcel → Option Refusal
return_asks customers p = first ((nat_lt 0 (carried customers p), NotOnTheWay) ∷ (home_fits customers p, Spoiled) ∷ [])

-- A return puts the load back on the giver's mark.
pub record Returns (customers : List Customer) (p : Parcel) (r : Result (Unit {0}) Refusal) (customers' : List Customer) : Type 0 where
  pub answer : r ≡ told tt (return_asks customers p)
  pub after : customers' ≡ cond (is_ok r) (home customers p) customers
