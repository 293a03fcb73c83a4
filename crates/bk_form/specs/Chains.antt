-- The states of blocks as chains, by places.
use Rattle.std.specs.Prelude.{◌≡◌, ◌↔◌, ℕ, List, [], ◌∷◌, ◌++◌, length, Option, None, Some, slice_index_or}
use Rattle.std.specs.List.{Contains, slice_get}
use Rattle.bk_func.specs.Records.{ValueRecord, BlockRecord, FuncRecord}
use Rattle.bk_func.specs.Form.Text.{HasBlock}
use Rattle.bk_func.specs.Form.States.{IsState, IsStateOf, IsChain}
use Rattle.bk_form.specs.declared.chains.Chain.{Chain}
use Rattle.bk_form.specs.declared.chains.Links.{Links}
use Rattle.bk_form.specs.declared.chains.Chain.TheVariants.{Empty, Linked, Broken}
use Rattle.bk_places.specs.Search.{IsMarked, Path, Reverses}
use Rattle.bk_form.specs.Naming.{NamesIf}
use Rattle.bk_form.specs.Places.{NodeRecord, node_at, nodes_of}

-- a state of the block at the place i stands at the place p
abbrev pub IsStateAt : FuncRecord → ℕ → ℕ → Type 0
IsStateAt f i p = (b : BlockRecord) × (v : ValueRecord) × (slice_get f.blocks i ≡ Some b) × (slice_get (nodes_of f) p ≡ Some (node_at i v)) × IsState f b v

-- for the place of each state that of its block
pub record AreHomes (f : FuncRecord) (hs : List (Option ℕ)) : Type 0 where
  pub size : length hs ≡ length (nodes_of f)
  pub each : (p i : ℕ) → (slice_index_or hs p None ≡ Some i) ↔ IsStateAt f i p

-- for the place of each value that of the state that it names
pub record AreNamed (f : FuncRecord) (ns : List (Option ℕ)) : Type 0 where
  pub size : length ns ≡ length (nodes_of f)
  pub each : (p : ℕ) (m : NodeRecord) → slice_get (nodes_of f) p ≡ Some m → NamesIf f m.value (slice_index_or ns p None)

-- the state at p names the one at q, and both stand in one block
abbrev pub IsBefore : List (Option ℕ) → List (Option ℕ) → ℕ → ℕ → Type 0
IsBefore hs ns p q = (slice_index_or ns p None ≡ Some q) × ((i : ℕ) × (slice_index_or hs p None ≡ Some i) × (slice_index_or hs q None ≡ Some i))

-- for each state the one of its block that it names
pub record AreBefores (hs ns bs : List (Option ℕ)) : Type 0 where
  pub size : length bs ≡ length hs
  pub each : (p q : ℕ) → (slice_index_or bs p None ≡ Some q) ↔ IsBefore hs ns p q

-- each place of the list has the next as the one before it, and the last has none
abbrev pub IsRun : List (Option ℕ) → List ℕ → Type 0
IsRun bs [] = ⊥
IsRun bs (p ∷ []) = slice_index_or bs p None ≡ None
IsRun bs (p ∷ (q ∷ ms)) = (slice_index_or bs p None ≡ Some q) × IsRun bs (q ∷ ms)

-- for each place one that has none before it and leads to the place
pub record AreFirsts (bs : List (Option ℕ)) (es : List (List ℕ)) (ls : List (Option ℕ)) : Type 0 where
  pub from : (p e : ℕ) → slice_index_or ls p None ≡ Some e → (slice_index_or bs e None ≡ None) × Path es (length es) e p
  pub found : (e p : ℕ) → slice_index_or bs e None ≡ None → Path es (length es) e p → IsMarked ls p

-- edges lead from each place to those that it comes before, and each place has a first
pub record AreLinks (l : Links) : Type 0 where
  pub size : length l.after ≡ length l.befores.items
  pub after : Reverses l.befores.items l.after
  pub firsts : AreFirsts l.befores.items l.after l.firsts.items

-- with a place of the list what comes before it stands there, and what it comes before
pub record IsClosedBy (bs : List (Option ℕ)) (ps : List ℕ) : Type 0 where
  pub down : (q p : ℕ) → Contains ps q → slice_index_or bs q None ≡ Some p → Contains ps p
  pub up : (q p : ℕ) → Contains ps p → slice_index_or bs q None ≡ Some p → Contains ps q

abbrev pub IsRunOf : List (Option ℕ) → List ℕ → List ℕ → Type 0
IsRunOf bs ps ms = IsRun bs ms × ((p : ℕ) → Contains ms p ↔ Contains ps p)

-- the places are none, one run from the last to the first, or no run
abbrev pub IsChainAt : List (Option ℕ) → List ℕ → Chain → Type 0
IsChainAt bs ps Empty = ps ≡ []
IsChainAt bs ps (Linked first last) = (ms : List ℕ) × (ns : List ℕ) × IsRunOf bs ps (last ∷ ms) × (last ∷ ms ≡ ns ++ first ∷ [])
IsChainAt bs ps Broken = ¬ (ps ≡ []) × ((p : ℕ) (ms : List ℕ) → ¬ IsRunOf bs ps (p ∷ ms))

-- what the states of the block are: none, a chain from the first to the last, or no chain
abbrev pub IsChainOf : FuncRecord → BlockRecord → Chain → Type 0
IsChainOf f b Empty = (n : ℕ) → ¬ IsStateOf f b n
IsChainOf f b (Linked first last) =
    (o : NodeRecord) × (u : NodeRecord) × (ms : List ℕ) × (ns : List ℕ) × (slice_get (nodes_of f) first ≡ Some o) × (slice_get (nodes_of f) last ≡ Some u)
    × IsChain f b (u.value.id ∷ ms) × (u.value.id ∷ ms ≡ ns ++ o.value.id ∷ [])
IsChainOf f b Broken = ¬ ((n : ℕ) → ¬ IsStateOf f b n) × ((ms : List ℕ) → ¬ IsChain f b ms)

-- those of each block, which has one chain at most
pub record AreChains (f : FuncRecord) (cs : List Chain) : Type 0 where
  pub one : (b : BlockRecord) (l k : List ℕ) → HasBlock f b → IsChain f b l → IsChain f b k → l ≡ k
  pub size : length cs ≡ length f.blocks
  pub each : (i : ℕ) (b : BlockRecord) (c : Chain) → slice_get f.blocks i ≡ Some b → slice_get cs i ≡ Some c → IsChainOf f b c
