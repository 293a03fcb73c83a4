-- Places with one key, as groups.
use Rattle.std.specs.Prelude.{◌≡◌, ◌↔◌, ℕ, ◌<◌, Bool, true, false, List, [], length, Option, None, Some, cond, unwrap_or, slice_index, slice_index_or}
use Rattle.std.specs.List.{Contains, slice_get}
use Rattle.std.specs.BTreeMap.{get, BTreeMap, is_at}
use Rattle.bk_func.specs.Records.{FuncRecord}
use Rattle.bk_func.specs.Form.States.{Names}
use Rattle.bk_form.specs.Edges.{edge_cmp}
use Rattle.bk_form.specs.Places.{NodeRecord, nodes_of}

-- the group of the key, which is the first place with it: this place where there was none before
abbrev pub group_in : BTreeMap (ℕ × ℕ) ℕ → Option (ℕ × ℕ) → ℕ → Option ℕ
group_in m None p = None
group_in m (Some k) p = Some (unwrap_or (get edge_cmp m k) p)

-- the group of each key afterwards
abbrev pub grouped : BTreeMap (ℕ × ℕ) ℕ → Option (ℕ × ℕ) → ℕ → ℕ × ℕ → Option ℕ
grouped m None p e = get edge_cmp m e
grouped m (Some k) p e = cond (is_at (edge_cmp k) e) (Some (unwrap_or (get edge_cmp m k) p)) (get edge_cmp m e)

-- the groups of the places: one for each key
pub record AreGroups (ks : List (Option (ℕ × ℕ))) (gs : List (Option ℕ)) : Type 0 where
  pub size : length gs ≡ length ks
  pub none : (p : ℕ) → slice_index_or ks p None ≡ None → slice_index_or gs p None ≡ None
  pub some : (p : ℕ) (k : ℕ × ℕ) → slice_index_or ks p None ≡ Some k → (g : ℕ) × (slice_index_or gs p None ≡ Some g) × g < length ks
  pub same : (p q g : ℕ) → slice_index_or gs p None ≡ Some g → slice_index_or gs q None ≡ Some g → slice_index_or ks p None ≡ slice_index_or ks q None
  pub one : (p q : ℕ) (k : ℕ × ℕ) → slice_index_or ks p None ≡ Some k → slice_index_or ks q None ≡ Some k → slice_index_or gs p None ≡ slice_index_or gs q None

-- the key of a value: its block and the state that it names
abbrev pub key_of : ℕ → Option ℕ → Option (ℕ × ℕ)
key_of home None = None
key_of home (Some s) = Some (home, s)

-- values of one group stand in one block and name one state, and such values are of one group
pub record AreGroupsOf (f : FuncRecord) (gs : List (Option ℕ)) : Type 0 where
  pub size : length gs ≡ length (nodes_of f)
  pub within : (p g : ℕ) → slice_index_or gs p None ≡ Some g → g < length (nodes_of f)
  pub named : (p g : ℕ) (m : NodeRecord) → slice_get (nodes_of f) p ≡ Some m → slice_index_or gs p None ≡ Some g → (s : ℕ) × Names f m.value s
  pub home : (p q g : ℕ) (m o : NodeRecord) → slice_get (nodes_of f) p ≡ Some m → slice_get (nodes_of f) q ≡ Some o → slice_index_or gs p None ≡ Some g
      → slice_index_or gs q None ≡ Some g → m.home ≡ o.home
  pub same : (p q g s : ℕ) (m o : NodeRecord) → slice_get (nodes_of f) p ≡ Some m → slice_get (nodes_of f) q ≡ Some o → slice_index_or gs p None ≡ Some g
      → slice_index_or gs q None ≡ Some g → Names f m.value s → Names f o.value s
  pub one : (p q s : ℕ) (m o : NodeRecord) → slice_get (nodes_of f) p ≡ Some m → slice_get (nodes_of f) q ≡ Some o → m.home ≡ o.home → Names f m.value s
      → Names f o.value s → (g : ℕ) × (slice_index_or gs p None ≡ Some g) × (slice_index_or gs q None ≡ Some g)

-- the places are marked of which the fact holds
pub record ArePicked (f : FuncRecord) (P : ℕ → NodeRecord → Type 0) (bs : List Bool) : Type 0 where
  pub each : (p : ℕ) (m : NodeRecord) → slice_get (nodes_of f) p ≡ Some m → (slice_index_or bs p false ≡ true) ↔ P p m

-- for each group its places of which the fact holds, in order
pub record AreListed (f : FuncRecord) (gs : List (Option ℕ)) (P : ℕ → NodeRecord → Type 0) (es : List (List ℕ)) : Type 0 where
  pub size : length es ≡ length (nodes_of f)
  pub each : (g p : ℕ) → Contains (slice_index_or es g []) p ↔ ((m : NodeRecord) × (slice_get (nodes_of f) p ≡ Some m) × (slice_index_or gs p None ≡ Some g) × P p m)
  pub rising : (g j k : ℕ) → j < k → k < length (slice_index_or es g []) → slice_index (slice_index_or es g []) j < slice_index (slice_index_or es g []) k
