-- What is needed is marked.
use Rattle.std.proofs.Common.{◌≡◌, ◌∙◌, sym, refl, ap, subst, ℕ, ◌≢◌, ◌<◌, Bool, true, false, List, length, Some, ◌⊎◌, inl, inr, arith, [], ◌∷◌, zero, suc, not, ◌||◌, get_or, ◌↔◌, length-set}
use Rattle.std.specs.Prelude.{slice_get, slice_set}
use Rattle.std.proofs.lemmas.Bool.{cases_eq}
use Rattle.std.proofs.lemmas.List.{get_or-set_same, get_or-set_other}
use Rattle.std.proofs.lemmas.Option.{slice_get_within}
use Rattle.bk_graph.specs.Cleaned.{takes, IsNeeded, control, itself, argument}
use Rattle.bk_graph.specs.Facts.{Facts, edge_stays}
use Rattle.bk_graph.specs.Clean.{is_phi}
use Rattle.bk_graph.specs.Known.{stays_there}
use Rattle.bk_graph.specs.Kinds.{stays}
use Rattle.bk_graph.specs.Marks.{marked, AreMarked, IsControlDone, IsOwnDone, IsArgDone, AreArgsDone, IsValueDone}
use Rattle.bk_graph.specs.Nodes.{NodeRecord}
use Rattle.bk_graph.specs.Tables.{Tables, edges_to, args_of}

pub all_marked : (t : Tables) (F : Facts) (marks : List Bool) → AreMarked t F marks → ((b : ℕ) → F.reached b ≡ true → b < length t.blocks)
    → ((b : ℕ) → b < length t.blocks → IsControlDone t F marks b) → ((p : ℕ) → p < length t.nodes → IsValueDone t F marks p)
    → (p : ℕ) → p < length t.nodes → (marked marks p ≡ true) ↔ IsNeeded t F p
all_marked t F marks m within controls values p l = (m.needs p, λ d. go p d l)
  where
    go : (q : ℕ) → IsNeeded t F q → q < length t.nodes → marked marks q ≡ true
    go _ (control b q r o c) g = controls b (within b r) q r o c g
    go q (itself _ n i r s) g = (values q g).own n i r s
    go _ (argument q k r n d i a s) g = (let w = slice_get_within t.nodes q n i in (values q w).args (go q d w) k r n i a s g)

pub mark_put : (t : Tables) (F : Facts) (marks : List Bool) (p : ℕ) → AreMarked t F marks → IsNeeded t F p → p < length marks → AreMarked t F (slice_set marks p true)
mark_put t F marks p m d l = record { size = length-set marks p true ∙ m.size; needs = λ q e. go q e (cases_eq q p) }
  where
    go : (q : ℕ) → marked (slice_set marks p true) q ≡ true → (q ≡ p) ⊎ (q ≢ p) → IsNeeded t F q
    go q e (inl z) = (let P : ℕ → Type 0 = λ x. IsNeeded t F x in subst P (sym z) d)
    go q e (inr n) = m.needs q (sym (get_or-set_other marks p q true false n) ∙ e)

pub mark_kept : (marks : List Bool) (p : ℕ) → p < length marks → (q : ℕ) → marked marks q ≡ true → marked (slice_set marks p true) q ≡ true
mark_kept marks p l q e = go (cases_eq q p)
  where
    go : (q ≡ p) ⊎ (q ≢ p) → marked (slice_set marks p true) q ≡ true
    go (inl z) = ap (marked (slice_set marks p true)) z ∙ get_or-set_same marks p true false l
    go (inr n) = get_or-set_other marks p q true false n ∙ e

-- one look

same_node : (t : Tables) (p : ℕ) (n m : NodeRecord) → slice_get t.nodes p ≡ Some n → slice_get t.nodes p ≡ Some m → n ≡ m
same_node t p n m i j = (let x : Some n ≡ Some m = sym i ∙ j in cc)

not_both : (b : Bool) → b ≡ true → b ≡ false → ⊥
not_both b e f = (let x : true ≡ false = sym e ∙ f in absurd cc)

-- the value stays where it is not reached, or goes where it is
pub own_unreached : (t : Tables) (F : Facts) (marks : List Bool) (p : ℕ) (n : NodeRecord) → slice_get t.nodes p ≡ Some n → F.reached n.block ≡ false → IsOwnDone t F marks p
own_unreached t F marks p n i e m j r s =
    let z = ap (λ (x : NodeRecord). F.reached x.block) (same_node t p n m i j) in
    absurd (not_both (F.reached m.block) r (sym z ∙ e))

pub own_going : (t : Tables) (F : Facts) (marks : List Bool) (p : ℕ) (n : NodeRecord) → slice_get t.nodes p ≡ Some n → stays n.value.op.family n.value.ty ≡ false → IsOwnDone t F marks p
own_going t F marks p n i e m j r s =
    let z = ap (λ (x : NodeRecord). stays x.value.op.family x.value.ty) (same_node t p n m i j) in
    absurd (not_both (stays m.value.op.family m.value.ty) s (sym z ∙ e))

either_left : (a b : Bool) → a ≡ true → (a || b) ≡ true
either_left true b e = refl
either_left false b e = (let x : false ≡ true = e in absurd cc)

either_right : (a b : Bool) → a ≡ false → (a || b) ≡ b
either_right true b e = (let x : true ≡ false = e in absurd cc)
either_right false b e = refl

pub takes_all : (t : Tables) (F : Facts) (n : NodeRecord) (k : ℕ) (phi : Bool) → phi ≡ is_phi n.value.op.family → phi ≡ false → takes t F n k ≡ true
takes_all t F n k phi is e = either_left (not (is_phi n.value.op.family)) _ (ap not (sym is ∙ e))

pub takes_over : (t : Tables) (F : Facts) (n : NodeRecord) (k : ℕ) (phi : Bool) → phi ≡ is_phi n.value.op.family → phi ≡ true
    → takes t F n k ≡ stays_there (edge_stays F) (slice_get (edges_to t n.block) k)
takes_over t F n k phi is e = either_right (not (is_phi n.value.op.family)) _ (ap not (sym is ∙ e))

pub arg_untaken : (t : Tables) (F : Facts) (n m : NodeRecord) (p k : ℕ) → slice_get t.nodes p ≡ Some n → slice_get t.nodes p ≡ Some m → takes t F n k ≡ false → takes t F m k ≡ true → ⊥
arg_untaken t F n m p k i j e f =
    let z = ap (λ (x : NodeRecord). takes t F x k) (same_node t p n m i j) in
    not_both (takes t F m k) f (sym z ∙ e)

pub arg_done : (t : Tables) (F : Facts) (marks : List Bool) (p k a : ℕ) → slice_get (args_of t p) k ≡ Some a
    → ((n : NodeRecord) → slice_get t.nodes p ≡ Some n → takes t F n k ≡ true → F.root a < length t.nodes → marked marks (F.root a) ≡ true) → IsArgDone t F marks p k
arg_done t F marks p k a at done q n i e s l =
    let x : Some a ≡ Some q = sym at ∙ e in
    let z : a ≡ q = cc in
    let P : ℕ → Type 0 = λ r. F.root r < length t.nodes → marked marks (F.root r) ≡ true in
    subst P z (done n i s) l

pub args_done : (t : Tables) (F : Facts) (marks : List Bool) (p : ℕ) → ((k : ℕ) → k < length (args_of t p) → IsArgDone t F marks p k) → AreArgsDone t F marks p
args_done t F marks p each m k q n i e = each k (slice_get_within (args_of t p) k q e) q n i e

pub args_unmarked : (t : Tables) (F : Facts) (marks : List Bool) (p : ℕ) → marked marks p ≡ false → AreArgsDone t F marks p
args_unmarked t F marks p e m = absurd (not_both (marked marks p) m e)

pub get_at : (xs : List ℕ) (i : ℕ) → i < length xs → slice_get xs i ≡ Some (get_or xs i 0)
get_at [] i l = absurd (omega (arith, l))
get_at (x ∷ xs) zero l = refl
get_at (x ∷ xs) (suc i) l = get_at xs i (omega (arith, l))
