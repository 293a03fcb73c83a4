-- What is done in the two rounds of workers.
use Rattle.std.specs.Prelude.{◌≡◌, ◌<◌, ◌≤◌, ℕ, List, [], ◌∷◌, ◌++◌, length, map, slice_get, slice_index, Some}
use Rattle.std.specs.List.{All, Contains, filter, flat_map}
use Rattle.std.specs.Prelude.{Bool}
use Rattle.std.specs.declared.vec.Vec.{Vec}
use Rattle.std.specs.declared.alloc.Global.{Global}
use Rattle.bk_ops.specs.declared.types.Target.{Target}
use Rattle.bk_core.specs.Rule.{Sight, keys_of}
use Rattle.bk_dump.specs.ClaimOrder.{IsClaimOrder}
use Rattle.bk_fixup.specs.Keys as fixup
use Rattle.bk_func.specs.Records.{FuncRecord, PackageRecord}
use Rattle.bk_piece.specs.declared.Handle.{Handle}
use Rattle.bk_piece.specs.declared.Key.{Key}
use Rattle.bk_piece.specs.Pieces.{PieceRecord}
use Rattle.bk_piece.specs.Rising.{rising}
use Rattle.bk_work.specs.declared.items.Done.{Done}
use Rattle.bk_work.specs.declared.items.Done.TheVariants.{Lowered, Ready, Refused}
use Rattle.bk_work.specs.declared.refusals.Cause.TheVariants.{Frame}
use Rattle.bk_work.specs.declared.rounds.Job.{Job}
use Rattle.bk_work.specs.declared.rules.Lists.{Lists}
use Rattle.bk_work.specs.declared.rounds.Job.TheVariants.{Lower, Emit}
use Rattle.bk_work.specs.Each.{Each}
use Rattle.bk_work.specs.Framed.{FramedRecord, IsFramed, IsTooDeep}
use Rattle.bk_work.specs.Indexed.{AreIndexed}
use Rattle.bk_work.specs.Lowered.{IsLowered}
use Rattle.bk_work.specs.Package.{IsPiece, in_area}
use Rattle.bk_work.specs.Refused.{IsRefused, IsUnframed}
use Rattle.bk_work.specs.Rules.{RulesRecord, rules_of}

abbrev pub Keys : Type 0
Keys = Vec Key Global

-- a lowered function and its keys
abbrev pub Entry : Type 0
Entry = FuncRecord × Keys

abbrev pub Item : Type 0
Item = ℕ × ℕ × Done

-- what is held of an area, a cell and a key: that a pass knows the cell with the key, or that it holds the key
abbrev pub Holds : Type 1
Holds = ℕ × ℕ × ℕ → Type 0

-- a handle is of the key's area, and its cell has the key
abbrev pub IsHandle : Holds → Key → Handle → Type 0
IsHandle P k h = (h.area ≡ k.area) × P (k.area, h.cell, k.key)

-- a function is lowered to this one, whose keys these are
pub record IsEntry (pkg : PackageRecord) (t : Target) (rules : RulesRecord) (f : FuncRecord) (e : Entry) : Type 0 where
  pub lowered : IsLowered pkg t rules f e.0
  pub keys : e.1.items ≡ fixup.keys_of e.0
  pub are : All fixup.IsKey e.1.items

-- the first round makes this of a function
abbrev pub IsFirst : PackageRecord → Target → RulesRecord → FuncRecord → Done → Type 0
IsFirst pkg t rules f (Lowered g keys) = IsEntry pkg t rules f (g, keys)
IsFirst pkg t rules f (Ready piece) = ⊥
IsFirst pkg t rules f (Refused cause) = IsRefused pkg t rules f cause × IsUnframed cause

-- the function with its keys
abbrev pub IsListed : FuncRecord → Done → Type 0
IsListed f (Lowered g keys) = (g ≡ f) × (keys.items ≡ fixup.keys_of f) × All fixup.IsKey keys.items
IsListed f (Ready piece) = ⊥
IsListed f (Refused cause) = ⊥

-- the code of a function in its frame, with a handle for each of these keys
pub record IsCoded (t : Target) (P : Holds) (it : FramedRecord) (keys : List Key) (piece : PieceRecord) : Type 0 where
  pub handles : List Handle
  pub each : Each (IsHandle P) keys handles
  pub code : IsPiece t it.func it.placed it.frame handles piece

abbrev pub IsReady : Target → Holds → FramedRecord → List Key → Done → Type 0
IsReady t P it keys (Lowered g ks) = ⊥
IsReady t P it keys (Ready piece) = IsCoded t P it keys piece
IsReady t P it keys (Refused cause) = ⊥

-- the second round makes this of a lowered function
abbrev pub IsSecond : PackageRecord → Target → Holds → Entry → Done → Type 0
IsSecond pkg t P e (Lowered g keys) = ⊥
IsSecond pkg t P e (Ready piece) = (it : FramedRecord) × IsFramed pkg t e.0 it × IsCoded t P it e.1.items piece
IsSecond pkg t P e (Refused cause) = (bytes : ℕ) × IsTooDeep pkg t e.0 bytes × (cause ≡ Frame bytes)

-- the lowered function of a place: it stands where the place stands among all places
abbrev pub IsAt : List ℕ → List Entry → ℕ → Entry → Type 0
IsAt places lowered f e = (j : ℕ) × (slice_get places j ≡ Some f) × (slice_get lowered j ≡ Some e)

-- what is done to the function at a place of the package
abbrev pub IsDone : PackageRecord → Target → Job → Holds → ℕ → Done → Type 0
IsDone pkg t (Lower extra) P f d = (g : FuncRecord) × (slice_get pkg.funcs f ≡ Some g) × IsFirst pkg t (rules_of t extra.now) g d
IsDone pkg t (Emit places lowered) P f d = (e : Entry) × IsAt places.items lowered.now f e × IsSecond pkg t P e d

-- an item: its claim is below the count, and its function is that of the claim
pub record IsItem (pkg : PackageRecord) (t : Target) (job : Job) (order : List ℕ) (P : Holds) (i : Item) : Type 0 where
  pub below : i.0 < length order
  pub func : i.1 ≡ slice_index order i.0
  pub is : IsDone pkg t job P i.1 i.2

abbrev pub claims_of : List Item → List ℕ
claims_of items = map (λ (i : Item). i.0) items

-- the parts and the numbers are as before, and all that was known still is
pub record KnowsOn (v w : Sight) : Type 0 where
  pub parts : w.parts ≡ v.parts
  pub numbers : w.numbers ≡ v.numbers
  pub known : (x : ℕ × ℕ × ℕ) → Contains v.known x → Contains w.known x

-- the claims of the items in order and then one number at or above the count were drawn
pub record Worked (count : ℕ) (v w : Sight) (items : List Item) : Type 0 where
  pub last : ℕ
  pub past : count ≤ last
  pub numbers : w.numbers ≡ v.numbers ++ (claims_of items ++ last ∷ [])

-- the keys of an area, in order and with repeats
abbrev pub area_keys : ℕ → List Entry → List ℕ
area_keys a lowered = flat_map (λ (e : Entry). in_area a e.1.items) lowered

abbrev pub announced_by : List Entry → List (List ℕ)
announced_by lowered = area_keys 0 lowered ∷ area_keys 1 lowered ∷ area_keys 2 lowered ∷ []

-- the functions whose keys a round announces: none where it lowers
abbrev pub entries_in : Job → List Entry
entries_in (Lower extra) = []
entries_in (Emit places lowered) = lowered.now

abbrev pub announced_for : Job → List (List ℕ)
announced_for job = announced_by (entries_in job)

abbrev pub IsAnnounced : List (List ℕ) → Key → Type 0
IsAnnounced announced k = Contains (keys_of announced k.area) k.key

abbrev pub AreKeys : List Entry → Type 0
AreKeys lowered = All (λ (e : Entry). All fixup.IsKey e.1.items) lowered

-- the rules by which a worker lowers, with their indexes; to make code it needs none
abbrev pub AreRules : Target → Job → Lists → Type 0
AreRules t (Lower extra) lists = AreIndexed (rules_of t extra.now) lists
AreRules t (Emit places lowered) lists = Unit {0}

-- the job is to lower by these rules, or to make the code of these functions at these places
abbrev pub IsLower : Target → Job → RulesRecord → Type 0
IsLower t (Lower extra) rules = rules ≡ rules_of t extra.now
IsLower t (Emit places lowered) rules = ⊥

abbrev pub IsEmit : Job → List ℕ → List Entry → Type 0
IsEmit (Lower extra) ps es = ⊥
IsEmit (Emit places lowered) ps es = (places.items ≡ ps) × (lowered.now ≡ es)

-- the functions at these places are lowered, in package order, by some rules
pub record IsEntryAt (pkg : PackageRecord) (t : Target) (rules : RulesRecord) (place : ℕ) (e : Entry) : Type 0 where
  pub func : FuncRecord
  pub there : slice_get pkg.funcs place ≡ Some func
  pub is : IsEntry pkg t rules func e

abbrev pub AreLowered : PackageRecord → Target → RulesRecord → List ℕ → List Entry → Type 0
AreLowered pkg t rules order lowered = Each (IsEntryAt pkg t rules) (rising order) lowered

-- some of the package's functions, in the order of the claims
pub record IsInClaimOrder (pkg : PackageRecord) (order : List ℕ) : Type 0 where
  pub all : List ℕ
  pub claims : IsClaimOrder pkg.funcs all
  pub keeps : ℕ → Bool
  pub some : order ≡ filter keeps all
