-- Between the rounds: the functions that are lowered, at their places in rising order.
use Rattle.std.proofs.Common.{◌≡◌, ⊎_elim, ℕ, zero, suc, ◌+◌, ◌<◌, Bool, true, false, cond, List, [], ◌∷◌, length, map, refl, sym, ap, ◌∙◌, subst, arith, true≢false, Option, None, Some}
use Rattle.std.specs.Prelude.{slice_get}
use Rattle.std.specs.List.{All, Contains, filter}
use Rattle.std.proofs.lemmas.List.Elements.{All-cons, All-nil}
use Rattle.std.proofs.lemmas.List.Kept.{AllPairs-cons}
use Rattle.std.proofs.lemmas.List.Sorted.{Contains-permutation}
use Rattle.bk_func.specs.Records.{FuncRecord, PackageRecord}
use Rattle.bk_ops.specs.declared.types.Target.{Target}
use Rattle.bk_dump.specs.ClaimOrder.{IsClaimOrder, Ranked, place_of, ranked, ranked_from}
use Rattle.bk_fixup.specs.Keys.{IsKey}
use Rattle.bk_piece.specs.Rising.{Rise, rising}
use Rattle.bk_piece.proofs.Elements.{has_cases, has_here, has_none, has_there}
use Rattle.bk_piece.proofs.Rising.{none_rises, rising_is}
use Rattle.bk_work.specs.declared.items.Done.{Done}
use Rattle.bk_work.specs.declared.items.Done.TheVariants as done
use Rattle.bk_work.specs.declared.refusals.Cause.{Cause}
use Rattle.bk_work.specs.Each.{Each, none, more}
use Rattle.bk_work.specs.Placed.{AreFirsts, is_open, lowered, no_firsts, stopped}
use Rattle.bk_work.specs.Rounds.{AreKeys, AreLowered, Entry, IsEntryAt, IsFirst}
use Rattle.bk_work.specs.Rules.{RulesRecord}

-- what was placed for the functions from the place k on is what the first round makes of them
abbrev pub FromFirst : PackageRecord → Target → RulesRecord → ℕ → List (Option Done) → Type 0
FromFirst pkg t rules k ds = (f : ℕ) (d : Done) → slice_get ds f ≡ Some (Some d) → (g : FuncRecord) × (slice_get pkg.funcs (k + f) ≡ Some g) × IsFirst pkg t rules g d

first_next : (pkg : PackageRecord) (t : Target) (rules : RulesRecord) (k : ℕ) (o : Option Done) (ds : List (Option Done)) → FromFirst pkg t rules k (o ∷ ds) → FromFirst pkg t rules (k + 1) ds
first_next pkg t rules k o ds h = λ f d e.
    let g = h (suc f) d e in
    let same : k + suc f ≡ (k + 1) + f = omega arith in
    (g.0, subst (λ n. slice_get pkg.funcs n ≡ Some g.0) same g.1, g.2)

-- the places that are open, the first of these having the place k
abbrev pub open_from : ℕ → List (Option Cause) → List ℕ
open_from k [] = []
open_from k (None ∷ cs) = k ∷ open_from (k + 1) cs
open_from k (Some cause ∷ cs) = open_from (k + 1) cs

pub entries_are : (pkg : PackageRecord) (t : Target) (rules : RulesRecord) (k : ℕ) (ds : List (Option Done)) (es : List Entry) (cs : List (Option Cause)) → AreFirsts ds es cs → FromFirst pkg t rules k ds
    → Each (IsEntryAt pkg t rules) (open_from k cs) es
entries_are pkg t rules k _ _ _ no_firsts h = none
entries_are pkg t rules k _ _ _ (lowered e ds es cs rest) h =
    let first = h 0 (done.Lowered e.0 e.1) refl in
    let same : k + 0 ≡ k = omega arith in
    more k e (open_from (k + 1) cs) es
    (record { func = first.0; there = subst (λ n. slice_get pkg.funcs n ≡ Some first.0) same first.1; is = first.2 })
    (entries_are pkg t rules (k + 1) ds es cs rest (first_next pkg t rules k (Some (done.Lowered e.0 e.1)) ds h))
entries_are pkg t rules k _ _ _ (stopped cause ds es cs rest) h = entries_are pkg t rules (k + 1) ds es cs rest (first_next pkg t rules k (Some (done.Refused cause)) ds h)

pub cause_is : (ds : List (Option Done)) (es : List Entry) (cs : List (Option Cause)) (f : ℕ) (cause : Cause) → AreFirsts ds es cs → slice_get cs f ≡ Some (Some cause) → slice_get ds f ≡ Some (Some (done.Refused cause))
cause_is _ _ _ f cause no_firsts e = absurd cc
cause_is _ _ _ zero cause (lowered x ds es cs rest) e = absurd cc
cause_is _ _ _ (suc f) cause (lowered x ds es cs rest) e = cause_is ds es cs f cause rest e
cause_is _ _ _ zero cause (stopped why ds es cs rest) e = let same : why ≡ cause = cc in ap (λ c. Some (Some (done.Refused c))) same
cause_is _ _ _ (suc f) cause (stopped why ds es cs rest) e = cause_is ds es cs f cause rest e

pub firsts_long : (ds : List (Option Done)) (es : List Entry) (cs : List (Option Cause)) → AreFirsts ds es cs → length cs ≡ length ds
firsts_long _ _ _ no_firsts = refl
firsts_long _ _ _ (lowered x ds es cs rest) = ap suc (firsts_long ds es cs rest)
firsts_long _ _ _ (stopped why ds es cs rest) = ap suc (firsts_long ds es cs rest)

open_above : (k low : ℕ) (cs : List (Option Cause)) → low < k → All (λ x. low < x) (open_from k cs)
open_above k low [] lt = All-nil (λ x. low < x)
open_above k low (None ∷ cs) lt = All-cons (λ x. low < x) k (open_from (k + 1) cs) lt (open_above (k + 1) low cs (omega arith))
open_above k low (Some cause ∷ cs) lt = open_above (k + 1) low cs (omega arith)

pub open_rises : (k : ℕ) (cs : List (Option Cause)) → Rise (open_from k cs)
open_rises k [] = none_rises
open_rises k (None ∷ cs) = AllPairs-cons (λ a b. a < b) k (open_from (k + 1) cs) (open_above (k + 1) k cs (omega arith)) (open_rises (k + 1) cs)
open_rises k (Some cause ∷ cs) = open_rises (k + 1) cs

has_open : (k f : ℕ) (cs : List (Option Cause)) → is_open cs f ≡ true → Contains (open_from k cs) (k + f)
has_open k f [] e = absurd (true≢false (sym e))
has_open k zero (None ∷ cs) e = let same : k ≡ k + 0 = omega arith in subst (λ n. Contains (k ∷ open_from (k + 1) cs) n) same (has_here k (open_from (k + 1) cs))
has_open k (suc f) (None ∷ cs) e = let same : (k + 1) + f ≡ k + suc f = omega arith in
    subst (λ n. Contains (k ∷ open_from (k + 1) cs) n) same (has_there k (open_from (k + 1) cs) ((k + 1) + f) (has_open (k + 1) f cs e))
has_open k zero (Some cause ∷ cs) e = absurd (true≢false (sym e))
has_open k (suc f) (Some cause ∷ cs) e = let same : (k + 1) + f ≡ k + suc f = omega arith in subst (λ n. Contains (open_from (k + 1) cs) n) same (has_open (k + 1) f cs e)

from_open : (k q : ℕ) (cs : List (Option Cause)) → Contains (open_from k cs) q → (f : ℕ) × (q ≡ k + f) × (f < length cs) × (is_open cs f ≡ true)
from_open k q [] h = absurd (has_none q h)
from_open k q (None ∷ cs) h = ⊎_elim
    (λ (same : k ≡ q). (0, omega (arith, same), omega arith, refl))
    (λ rest. let i = from_open (k + 1) q cs rest in (suc i.0, (let e = i.1 in omega (arith, e)), (let l = i.2 in omega (arith, l)), i.3))
    (has_cases k (open_from (k + 1) cs) q h)
from_open k q (Some cause ∷ cs) h = let i = from_open (k + 1) q cs h in (suc i.0, (let e = i.1 in omega (arith, e)), (let l = i.2 in omega (arith, l)), i.3)

-- what a filter keeps
kept : (p : ℕ → Bool) (xs : List ℕ) (x : ℕ) → Contains xs x → p x ≡ true → Contains (filter p xs) x
kept p [] x h t = absurd (has_none x h)
kept p (z ∷ xs) x h t = ⊎_elim
    (λ (same : z ≡ x). here (p z) (ap p same ∙ t) same)
    (λ rest. there (p z) (kept p xs x rest t))
    (has_cases z xs x h)
  where
    here : (b : Bool) → b ≡ true → z ≡ x → Contains (cond b (z ∷ filter p xs) (filter p xs)) x
    here true e same = subst (λ n. Contains (n ∷ filter p xs) x) (sym same) (has_here x (filter p xs))
    here false e same = absurd (true≢false (sym e))

    there : (b : Bool) → Contains (filter p xs) x → Contains (cond b (z ∷ filter p xs) (filter p xs)) x
    there true r = has_there z (filter p xs) x r
    there false r = r

from_kept : (p : ℕ → Bool) (xs : List ℕ) (x : ℕ) → Contains (filter p xs) x → p x ≡ true
from_kept p [] x h = absurd (has_none x h)
from_kept p (z ∷ xs) x h = by (from_kept p xs x) (p z) refl h
  where
    by : (Contains (filter p xs) x → p x ≡ true) → (b : Bool) → p z ≡ b → Contains (cond b (z ∷ filter p xs) (filter p xs)) x → p x ≡ true
    by again true t r = ⊎_elim (λ (same : z ≡ x). ap p (sym same) ∙ t) again (has_cases z (filter p xs) x r)
    by again false t r = again r

-- the order of the claims has all places
has_rank : (k f : ℕ) (fs : List FuncRecord) → f < length fs → (r : Ranked) × Contains (ranked_from k fs) r × (place_of r ≡ k + f)
has_rank k f [] lt = absurd (omega arith)
has_rank k zero (g ∷ fs) lt = (ranked g.given k, has_here (ranked g.given k) (ranked_from (k + 1) fs), omega arith)
has_rank k (suc f) (g ∷ fs) lt =
    let i = has_rank (k + 1) f fs (omega arith) in
    (i.0, has_there (ranked g.given k) (ranked_from (k + 1) fs) i.0 i.1, i.2 ∙ omega arith)

has_place : (rs : List Ranked) (r : Ranked) → Contains rs r → Contains (map place_of rs) (place_of r)
has_place [] r h = absurd (has_none r h)
has_place (z ∷ rs) r h = ⊎_elim
    (λ (same : z ≡ r). subst (λ n. Contains (n ∷ map place_of rs) (place_of r)) (sym (ap place_of same)) (has_here (place_of r) (map place_of rs)))
    (λ rest. has_there (place_of z) (map place_of rs) (place_of r) (has_place rs r rest))
    (has_cases z rs r h)

pub has_claim : (fs : List FuncRecord) (order : List ℕ) (f : ℕ) → IsClaimOrder fs order → f < length fs → Contains order f
has_claim fs order f claims lt =
    let r = has_rank 0 f fs lt in
    let at : place_of r.0 ≡ f = r.2 ∙ omega arith in
    subst (λ l. Contains l f) (sym claims.places)
    (subst (λ n. Contains (map place_of claims.sorted) n) at (has_place claims.sorted r.0 (Contains-permutation (ranked_from 0 fs) claims.sorted r.0 claims.same r.1)))

-- the open places of the order of the claims, in rising order
pub left_rises : (fs : List FuncRecord) (order : List ℕ) (cs : List (Option Cause)) → IsClaimOrder fs order → length cs ≡ length fs → open_from 0 cs ≡ rising (filter (is_open cs) order)
left_rises fs order cs claims long = rising_is (filter (is_open cs) order) (open_from 0 cs) (open_rises 0 cs)
    (λ q h. subst (λ n. Contains (open_from 0 cs) n) (omega arith) (has_open 0 q cs (from_kept (is_open cs) order q h)))
    (λ q h.
    let i = from_open 0 q cs h in
    let same : i.0 ≡ q = let e = i.1 in omega (arith, e) in
    let lt = i.2 in
    kept (is_open cs) order q (has_claim fs order q claims (omega (arith, lt, same, long))) (subst (λ n. is_open cs n ≡ true) same i.3))

-- the second round is given what it asks for
pub all_lowered : (pkg : PackageRecord) (t : Target) (rules : RulesRecord) (order : List ℕ) (ds : List (Option Done)) (es : List Entry) (cs : List (Option Cause)) → IsClaimOrder pkg.funcs order
    → length ds ≡ length pkg.funcs → AreFirsts ds es cs → FromFirst pkg t rules 0 ds → AreLowered pkg t rules (filter (is_open cs) order) es
all_lowered pkg t rules order ds es cs claims long firsts from =
    subst (λ l. Each (IsEntryAt pkg t rules) l es) (left_rises pkg.funcs order cs claims (firsts_long ds es cs firsts ∙ long)) (entries_are pkg t rules 0 ds es cs firsts from)

pub keys_are : (pkg : PackageRecord) (t : Target) (rules : RulesRecord) (places : List ℕ) (es : List Entry) → Each (IsEntryAt pkg t rules) places es → AreKeys es
keys_are pkg t rules _ _ none = All-nil (λ (e : Entry). All IsKey e.1.items)
keys_are pkg t rules _ _ (more place e places es h rest) = All-cons (λ (r : Entry). All IsKey r.1.items) e es h.is.are (keys_are pkg t rules places es rest)
