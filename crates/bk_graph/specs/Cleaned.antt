-- Clean: the function that is left once the rules give nothing more.
use Rattle.std.specs.Prelude.{◌≡◌, ℕ, ℤ, ◌<◌, ◌||◌, Bool, true, false, not, length, Option, None, Some, option_map, slice_get, ◌⊎◌, ◌↔◌}
use Rattle.bk_func.specs.declared.parts.Kind.{Kind}
use Rattle.bk_func.specs.declared.parts.Kind.TheVariants as kind
use Rattle.bk_func.specs.Records.{BlockRecord, FuncRecord}
use Rattle.bk_graph.specs.declared.graph.Edge.{Edge}
use Rattle.bk_graph.specs.Clean.{is_phi, place_taken}
use Rattle.bk_graph.specs.Facts.{Facts, edge_stays}
use Rattle.bk_graph.specs.Kinds.{is_passed, truth_of, stays}
use Rattle.bk_graph.specs.Known.{stays_there, TakesOver, Stands, goes, unreached, Known, Way}
use Rattle.bk_graph.specs.Nodes.{NodeRecord}
use Rattle.bk_graph.specs.Rebuilt.{rebuilt}
use Rattle.bk_graph.specs.Tables.{Tables, tables_of, edges_to, args_of, control_of}

-- the place of the successor to which a block goes alone, by its kind and by the constant that its control stands for

abbrev pub truth_at : Option NodeRecord → Option ℤ
truth_at None = None
truth_at (Some n) = truth_of n.value.op.family n.value.int

abbrev pub goes_if : Tables → (ℕ → ℕ) → Option ℕ → Option ℕ
goes_if t root None = None
goes_if t root (Some p) = option_map place_taken (truth_at (slice_get t.nodes (root p)))

abbrev pub goes_by : Tables → (ℕ → ℕ) → Option ℕ → Kind → Option ℕ
goes_by t root control kind.First = Some 0
goes_by t root control kind.If = goes_if t root control
goes_by t root control _ = None

abbrev pub goes_at : Tables → (ℕ → ℕ) → ℕ → Option BlockRecord → Option ℕ
goes_at t root b None = None
goes_at t root b (Some c) = goes_by t root (control_of t b) c.kind

-- a phi of a reached block does not take one value besides what it stands for
abbrev pub IsPhiDone : Tables → Facts → ℕ → Type 0
IsPhiDone t F p =
    (n : NodeRecord) (k q : ℕ) → slice_get t.nodes p ≡ Some n → F.reached n.block ≡ true → is_phi n.value.op.family ≡ true
    → TakesOver t (edge_stays F) p n.block k q → q < length t.nodes
    → ((j x : ℕ) → TakesOver t (edge_stays F) p n.block j x → (F.root x ≡ F.root p) ⊎ (F.root x ≡ F.root q)) → F.root q ≡ F.root p

-- a block that is reached goes where its kind and its control say
abbrev pub IsBranchDone : Tables → Facts → ℕ → Type 0
IsBranchDone t F b = F.reached b ≡ true → F.taken b ≡ goes_at t F.root b (slice_get t.blocks b)

-- the rules give the facts
pub record IsSound (t : Tables) (F : Facts) : Type 0 where
  pub reached : (b : ℕ) → F.reached b ≡ true → Way t (edge_stays F) b
  pub unreached : (b : ℕ) → F.reached b ≡ false → Known t (unreached b)
  pub taken : (b k : ℕ) → F.taken b ≡ Some k → Known t (goes b k)
  pub root : (p : ℕ) → Stands t (edge_stays F) p (F.root p)

-- and they give no more
pub record IsClosed (t : Tables) (F : Facts) : Type 0 where
  pub entry : (c : BlockRecord) → slice_get t.blocks 0 ≡ Some c → F.reached 0 ≡ true
  pub onward : (b k : ℕ) (e : Edge) → slice_get (edges_to t b) k ≡ Some e → edge_stays F e ≡ true → F.reached b ≡ true
  pub goes : (b : ℕ) → IsBranchDone t F b
  pub passed : (p q : ℕ) (n : NodeRecord) → slice_get t.nodes p ≡ Some n → is_passed n.value.op.family ≡ true → slice_get (args_of t p) 0 ≡ Some q
      → q < length t.nodes → F.root p ≡ F.root q
  pub phi : (p : ℕ) → IsPhiDone t F p

-- a value takes this argument, if it is a phi over an edge that stays
abbrev pub takes : Tables → Facts → NodeRecord → ℕ → Bool
takes t F n k = not (is_phi n.value.op.family) || stays_there (edge_stays F) (slice_get (edges_to t n.block) k)

-- a control, a nil check or a memory value of a reached block needs the value
pub data IsNeeded (t : Tables) (F : Facts) : ℕ → Type 0 where
  control : (b p : ℕ) → F.reached b ≡ true → F.taken b ≡ None → control_of t b ≡ Some p → IsNeeded t F (F.root p)
  itself : (p : ℕ) (n : NodeRecord) → slice_get t.nodes p ≡ Some n → F.reached n.block ≡ true → stays n.value.op.family n.value.ty ≡ true → IsNeeded t F p
  argument : (p k q : ℕ) (n : NodeRecord) → IsNeeded t F p → slice_get t.nodes p ≡ Some n → slice_get (args_of t p) k ≡ Some q → takes t F n k ≡ true
      → IsNeeded t F (F.root q)

-- the facts are what the rules give, no more and no less, and the function is what they leave of the other one
pub record IsCleaned (f g : FuncRecord) : Type 0 where
  pub facts : Facts
  pub sound : IsSound (tables_of f) facts
  pub closed : IsClosed (tables_of f) facts
  pub needed : ℕ → Bool
  pub needs : (p : ℕ) → p < length (tables_of f).nodes → (needed p ≡ true) ↔ IsNeeded (tables_of f) facts p
  pub is : g ≡ rebuilt (tables_of f) facts needed f
