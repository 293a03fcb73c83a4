-- Next uses where a block begins and through it.
use Rattle.std.proofs.Common.{◌≡◌, ◌∙◌, sym, refl, ap, subst, ℕ, zero, suc, ◌+◌, ◌<◌, ◌≤◌, ◌==◌, inl, inr, ⊎_elim, Bool, true, false, cond, not, List, [], ◌∷◌, ◌++◌, length, map, Option, Some, None, arith}
use Rattle.std.specs.Prelude.{filter, count_by, sum_by, IfSome}
use Rattle.std.specs.List.{Contains}
use Rattle.std.proofs.lemmas.Bool.{MatchBool-at_true, MatchBool-at_false, cases_Bool, and_from, and_parts, cases_lt, false≢true, eqb-true, not_from_true, not_from_false, false_from_ne_true}
use Rattle.std.proofs.lemmas.List.{length-append, length-map}
use Rattle.std.proofs.lemmas.List.Elements.{Contains-append_right}
use Rattle.std.proofs.lemmas.List.Sums.{sum_by-cons}
use Rattle.bk_ops.specs.Families.{is_nil_check, is_phi}
use Rattle.bk_ops.specs.declared.family.Family.{Family}
use Rattle.bk_ops.specs.declared.family.Family.TheVariants as op
use Rattle.bk_ops.specs.declared.types.Target.{Target}
use Rattle.bk_ops.specs.declared.types.Ty.{Ty}
use Rattle.bk_ops.specs.declared.types.Ty.TheVariants as ty
use Rattle.bk_func.specs.declared.form.FormKind.TheVariants.{Missing, Ty as Typed}
use Rattle.bk_func.specs.declared.parts.Kind.{Kind}
use Rattle.bk_func.specs.declared.parts.Kind.TheVariants.{Plain, If, First, Ret, Exit}
use Rattle.bk_func.specs.Records.{ValueRecord, BlockRecord, FuncRecord}
use Rattle.bk_func.specs.Form.Parts.{IsValueNumber}
use Rattle.bk_func.specs.Form.Shapes.{FitsControl, FitsTruth, IsData}
use Rattle.bk_func.specs.Form.Signatures.{Setting}
use Rattle.bk_func.specs.Form.Text.{HasBlock, HasValue, IsPhi}
use Rattle.bk_func.proofs.Faults.{In, filter-in, in-filter}
use Rattle.bk_live.specs.Live.{IsLive, here, order_at}
use Rattle.bk_live.proofs.Alone.{contains_at, found as counted_there}
use Rattle.bk_places.proofs.Elements.{in_left, in_right, to_contains, to_in}
use Rattle.bk_alloc.specs.Blocks.{Next, PlanRecord, PhiRecord, controls, phi_of}
use Rattle.bk_alloc.specs.Placement.{control_of, has_word, has_word_of, is_phi_value, is_scheduled, is_word, is_word_phi, task_of}
use Rattle.bk_alloc_quality.specs.Pressure.{AreApart, ArePassed, IsBegun, IsFlow, IsUsed, values_of}
use Rattle.bk_alloc_whole.specs.Whole.{IsLoweredLeaf, words_of}
use Rattle.bk_alloc_whole.proofs.Alone.{same}
use Rattle.bk_alloc_whole.proofs.Flowing.{Lies, back, ids, length-ids, passed_from, values_ids, apart_from}
use Rattle.bk_alloc_whole.proofs.Words.{has_word_by, in_map, in_words, live_of, map_in, used_of}

-- a block as it is allocated, its order having these values
abbrev pub plan_with : (ℕ → Bool) → BlockRecord → List ℕ → List ValueRecord → PlanRecord
plan_with word b order zs = record {
  id = b.id;
  kind = b.kind;
  phis = map phi_of (filter is_word_phi zs);
  skipped = count_by is_phi_value zs;
  tasks = map (task_of word) (filter is_scheduled zs);
  size = length order;
  control = control_of b.kind b.control;
  preds = b.preds;
  succs = b.succs;
}

-- phis

pub phi_is : (f : Family) → is_phi f ≡ true → f ≡ op.Phi
phi_is op.Phi e = refl
phi_is _ e = absurd (false≢true e)

pub is_phi_of : (v : ValueRecord) → IsPhi v → is_phi_value v ≡ true
is_phi_of v e = ap is_phi e

pub no_phi_of : (v : ValueRecord) → ¬ IsPhi v → is_phi_value v ≡ false
no_phi_of v n = false_from_ne_true (is_phi_value v) (λ e. n (phi_is v.op.family e))

pub phi_ids : (xs : List ValueRecord) → map (λ (p : PhiRecord). p.value) (map phi_of xs) ≡ ids xs
phi_ids [] = refl
phi_ids (x ∷ xs) = ap (λ (l : List ℕ). x.id ∷ l) (phi_ids xs)

pub record IsPhiOf (zs : List ValueRecord) (v : ℕ) : Type 0 where
  pub value : ValueRecord
  pub there : In value zs
  pub phi : IsPhi value
  pub word : has_word value ≡ true
  pub id : value.id ≡ v

pub phi_in : (zs : List ValueRecord) (v : ℕ) → Contains (map (λ (p : PhiRecord). p.value) (map phi_of (filter is_word_phi zs))) v → IsPhiOf zs v
phi_in zs v c =
    let i : In v (ids (filter is_word_phi zs)) = subst (λ (l : List ℕ). In v l) (phi_ids (filter is_word_phi zs)) (to_in v (map (λ (p : PhiRecord). p.value) (map phi_of (filter is_word_phi zs))) c) in
    let (z, iz, e) = map_in (λ (x : ValueRecord). x.id) (filter is_word_phi zs) v i in
    let (j, w) = in-filter is_word_phi z zs iz in
    let (p, h) = and_parts (is_phi_value z) (has_word z) w in
    record { value = z; there = j; phi = phi_is z.op.family p; word = h; id = e }

pub in_phis : (zs : List ValueRecord) (z : ValueRecord) → In z zs → IsPhi z → has_word z ≡ true → Contains (map (λ (p : PhiRecord). p.value) (map phi_of (filter is_word_phi zs))) z.id
in_phis zs z i p w =
    let j : In z (filter is_word_phi zs) = filter-in is_word_phi z zs i (and_from (is_phi_value z) (has_word z) (is_phi_of z p) w) in
    to_contains z.id (map (λ (p : PhiRecord). p.value) (map phi_of (filter is_word_phi zs)))
    (subst (λ (l : List ℕ). In z.id l) (sym (phi_ids (filter is_word_phi zs))) (in_map (λ (x : ValueRecord). x.id) (filter is_word_phi zs) z j))

-- phis and other values

count_cons : (t : ValueRecord → Bool) (z : ValueRecord) (zs : List ValueRecord) (b : Bool) → t z ≡ b → count_by t (z ∷ zs) ≡ cond b 1 0 + count_by t zs
count_cons t z zs b e = sum_by-cons (λ (x : ValueRecord). cond (t x) 1 0) z zs ∙ ap (λ (c : Bool). cond c 1 0 + count_by t zs) e

counted_none : (ts : List ValueRecord) → ((z : ValueRecord) → In z ts → ¬ IsPhi z) → count_by is_phi_value ts ≡ 0
counted_none [] h = refl
counted_none (t ∷ ts) h =
    let r = counted_none ts (λ z i. h z (inr i)) in
    let c = count_cons is_phi_value t ts false (no_phi_of t (h t (inl refl))) in
    omega (arith, r, c)

pub counted_phis : (ps ts : List ValueRecord) → ((z : ValueRecord) → In z ps → IsPhi z) → ((z : ValueRecord) → In z ts → ¬ IsPhi z) → count_by is_phi_value (ps ++ ts) ≡ length ps
counted_phis [] ts h n = counted_none ts n
counted_phis (p ∷ ps) ts h n =
    let r = counted_phis ps ts (λ z i. h z (inr i)) n in
    let c = count_cons is_phi_value p (ps ++ ts) true (is_phi_of p (h p (inl refl))) in
    omega (arith, r, c)

all_scheduled : (ts : List ValueRecord) → ((z : ValueRecord) → In z ts → ¬ IsPhi z) → filter is_scheduled ts ≡ ts
all_scheduled [] h = refl
all_scheduled (t ∷ ts) h =
    ap (λ (b : Bool). cond b (t ∷ filter is_scheduled ts) (filter is_scheduled ts)) (not_from_false (is_phi_value t) (no_phi_of t (h t (inl refl))))
    ∙ ap (λ l. t ∷ l) (all_scheduled ts (λ z i. h z (inr i)))

pub scheduled_rest : (ps ts : List ValueRecord) → ((z : ValueRecord) → In z ps → IsPhi z) → ((z : ValueRecord) → In z ts → ¬ IsPhi z) → filter is_scheduled (ps ++ ts) ≡ ts
scheduled_rest [] ts h n = all_scheduled ts n
scheduled_rest (p ∷ ps) ts h n =
    ap (λ (b : Bool). cond b (p ∷ filter is_scheduled (ps ++ ts)) (filter is_scheduled (ps ++ ts))) (not_from_true (is_phi_value p) (is_phi_of p (h p (inl refl))))
    ∙ scheduled_rest ps ts (λ z i. h z (inr i)) n

-- none comes twice

apart_by : (t : ValueRecord → Bool) (z : ValueRecord) (zs : List ValueRecord) → ¬ Contains (ids zs) z.id → AreApart (ids (filter t zs)) → (b : Bool) → AreApart (ids (cond b (z ∷ filter t zs) (filter t zs)))
apart_by t z zs n r true = (
  λ c. (let (y, iy, e) = map_in (λ (x : ValueRecord). x.id) (filter t zs) z.id (to_in z.id (ids (filter t zs)) c) in
      n (to_contains z.id (ids zs) (subst (λ (m : ℕ). In m (ids zs)) e (in_map (λ (x : ValueRecord). x.id) zs y (in-filter t y zs iy).0)))),
  r,
)
apart_by t z zs n r false = r

apart_filter : (t : ValueRecord → Bool) (zs : List ValueRecord) → AreApart (ids zs) → AreApart (ids (filter t zs))
apart_filter t [] a = tt
apart_filter t (z ∷ zs) a = apart_by t z zs a.0 (apart_filter t zs a.1) (t z)

-- the start

order_length : (f : FuncRecord) (os : List (List ℕ)) (next : Next) (i : ℕ) (b : BlockRecord) (ps ts : List ValueRecord) → Lies f os next i b ps ts → length (order_at os i) ≡ length ps + length ts
order_length f os next i b ps ts h = ap length h.order ∙ (length-ids (ps ++ ts) ∙ length-append ps ts)

pub not_used : (f : FuncRecord) (os : List (List ℕ)) (next : Next) (i : ℕ) (b : BlockRecord) (ps ts : List ValueRecord) → Lies f os next i b ps ts → (z : ValueRecord) → In z (ps ++ ts) → (v : ℕ) → z.id ≡ v
    → ¬ IsUsed (next b.id 0) v
not_used f os next i b ps ts h z iz v e u = h.dead v (z, h.inside z iz, e) (live_of f os next h.uses i 0 v b h.at (omega arith) u)

pub begins : (f : FuncRecord) (os : List (List ℕ)) (next : Next) (i : ℕ) (b : BlockRecord) (ps ts : List ValueRecord) → Lies f os next i b ps ts
    → IsBegun (words_of f) (next b.id) (plan_with (is_word f.blocks) b (order_at os i) (ps ++ ts))
begins f os next i b ps ts h =
    let zs = ps ++ ts in
    let hb : HasBlock f b = contains_at f.blocks i b h.at in
    let count : count_by is_phi_value zs ≡ length ps = counted_phis ps ts h.phis h.rest in
    let size = order_length f os next i b ps ts h in
    let task_ids : values_of (map (task_of (is_word f.blocks)) (filter is_scheduled zs)) ≡ ids ts = values_ids (is_word f.blocks) (filter is_scheduled zs) ∙ ap ids (scheduled_rest ps ts h.phis h.rest) in
    record {
      phis = λ v c. (let p = phi_in zs v c in
          (subst (λ (m : ℕ). Contains (words_of f) m) p.id (in_words f b p.value (hb, h.inside p.value p.there) p.word), not_used f os next i b ps ts h p.value p.there v p.id));
      distinct = subst (λ (l : List ℕ). AreApart l) (sym (phi_ids (filter is_word_phi zs))) (apart_filter is_word_phi zs (apart_from f os next i b ps ts [] zs h refl));
      rest = λ v c u.
          let live : IsLive f os v i (length ps) = live_of f os next h.uses i (length ps) v b h.at (omega (arith, size)) (subst (λ (k : ℕ). IsUsed (next b.id k) v) count u) in
          ⊎_elim
          (λ (m : In v (ids ps)).
          let (z, iz, e) = map_in (λ (x : ValueRecord). x.id) ps v m in
          let hz : HasValue f b z = (hb, h.inside z (in_left z ps ts iz)) in
          let w = has_word_by f os h.ordered b z hz (subst (λ (n : ℕ). Contains (words_of f) n) (sym e) c) in
          inl (subst (λ (n : ℕ). Contains (map (λ (p : PhiRecord). p.value) (map phi_of (filter is_word_phi zs))) n) e (in_phis zs z (in_left z ps ts iz) (h.phis z iz) w)))
          (λ (l : IsLive f os v i 0). inr (used_of f os next h.uses i 0 v b h.at (omega arith) l))
          (back f os next i b ps ts [] ps ts v (length ps) h refl (omega arith) live);
      later = λ v c.
          let (z, iz, e) = map_in (λ (x : ValueRecord). x.id) ts v (subst (λ (l : List ℕ). In v l) task_ids (to_in v (values_of (map (task_of (is_word f.blocks)) (filter is_scheduled zs))) c)) in
          let jz = in_right z ps ts iz in (
            not_used f os next i b ps ts h z jz v e,
            λ d. (let p = phi_in zs v d in
                h.rest z iz (subst IsPhi (same f os h.ordered b b p.value z (hb, h.inside p.value p.there) (hb, h.inside z jz) (p.id ∙ sym e)).values p.phi)),
          );
    }

-- the control

control_parts : (k : Kind) (o : Option ℕ) (c : ℕ) → Contains (controls (control_of k o)) c → (k ≡ If) × (o ≡ Some c)
control_parts Plain o c (j, l, e) = absurd (omega arith)
control_parts First o c (j, l, e) = absurd (omega arith)
control_parts Ret o c (j, l, e) = absurd (omega arith)
control_parts Exit o c (j, l, e) = absurd (omega arith)
control_parts If None c (j, l, e) = absurd (omega arith)
control_parts If (Some d) c (zero, l, e) = (refl, ap Some e)
control_parts If (Some d) c (suc j, l, e) = absurd (omega arith)

pub data_word : (s : Setting) (x : Ty) → IsData s x → has_word_of x ≡ true
data_word s ty.Mem d = absurd (d refl)
data_word s ty.Void d = absurd (d refl)
data_word s ty.Tuple d = absurd (d refl)
data_word s _ d = refl

truth_word : (s : Setting) (x : Ty) → FitsTruth s x → has_word_of x ≡ true
truth_word s x h = ⊎_elim
    (λ (e : s.loose ≡ true). data_word s x (MatchBool-at_true (IsData s x) (x ≡ ty.Bool) e h))
    (λ (e : s.loose ≡ false). ap has_word_of (MatchBool-at_false (IsData s x) (x ≡ ty.Bool) e h))
    (cases_Bool s.loose)

sum_found : {A : Type 0} (g : A → ℕ) (xs : List A) → 1 ≤ sum_by g xs → (x : A) × Contains xs x × 1 ≤ g x
sum_found g [] l = absurd (omega arith)
sum_found {A} g (y ∷ ys) l = ⊎_elim
    (λ (k : 0 < g y). (y, (0, omega arith, refl), omega arith))
    (λ (k : g y ≤ 0). let r = sum_found g ys (omega (arith, sum_by-cons g y ys)) in (r.0, Contains-append_right (y ∷ []) ys r.0 r.1, r.2))
    (cases_lt 0 (g y))

-- the value with a number
pub numbered : (f : FuncRecord) (n : ℕ) → IsValueNumber f n → (b : BlockRecord) × (v : ValueRecord) × HasValue f b v × (v.id ≡ n)
unfolding IsValueNumber
numbered f n h =
    let (b, hb, l) = sum_found (λ (b : BlockRecord). count_by (λ (v : ValueRecord). v.id == n) b.values) f.blocks (omega arith) in
    let (j, v, at, e) = counted_there (λ (v : ValueRecord). v.id == n) b.values l in
    (b, v, (hb, contains_at b.values j v at), eqb-true v.id n e)

control_is : (t : Target) (f : FuncRecord) (os : List (List ℕ)) (next : Next) (i : ℕ) (b : BlockRecord) (ps ts : List ValueRecord) → IsLoweredLeaf t f → Lies f os next i b ps ts → (c : ℕ)
    → Contains (controls (control_of b.kind b.control)) c → Contains (words_of f) c × IsUsed (next b.id (length (order_at os i))) c
control_is t f os next i b ps ts free h c k =
    let hb : HasBlock f b = contains_at f.blocks i b h.at in
    let (kind, is) = control_parts b.kind b.control c k in
    let (d, v, hv, e) = numbered f c (subst (λ (o : Option ℕ). IfSome o (IsValueNumber f)) is (h.ordered.formed.kinds Missing b hb).block.control) in
    let own : b.control ≡ Some v.id = is ∙ ap Some (sym e) in
    let s = h.ordered.setting in
    let fits : FitsControl s f v If = subst (λ (q : Kind). FitsControl s f v q) kind ((h.ordered.formed.kinds Typed b hb).block d v hv own) in
    let word : has_word v ≡ true = and_from (has_word_of v.ty) (not (is_nil_check v.op.family)) (truth_word s v.ty fits.1) (not_from_false (is_nil_check v.op.family) (free.controls b d v hb hv own)) in (
      subst (λ (m : ℕ). Contains (words_of f) m) e (in_words f d v hv word),
      used_of f os next h.uses i (length (order_at os i)) c b h.at (omega arith) (1, here i (length (order_at os i)) (inr (refl, (b, h.at, inl is)))),
    )

-- the whole block

pub flows : (t : Target) (f : FuncRecord) (os : List (List ℕ)) (next : Next) (i : ℕ) (b : BlockRecord) (ps ts : List ValueRecord) → IsLoweredLeaf t f → Lies f os next i b ps ts
    → IsFlow (words_of f) (next b.id) (plan_with (is_word f.blocks) b (order_at os i) (ps ++ ts))
flows t f os next i b ps ts free h =
    let zs = ps ++ ts in
    let word = is_word f.blocks in
    let count : count_by is_phi_value zs ≡ length ps = counted_phis ps ts h.phis h.rest in
    let rest : filter is_scheduled zs ≡ ts = scheduled_rest ps ts h.phis h.rest in
    let size = order_length f os next i b ps ts h in
    record {
      begun = begins f os next i b ps ts h;
      passed = subst (λ (l : List ValueRecord). ArePassed (words_of f) (next b.id) (count_by is_phi_value zs) (map (task_of word) l)) (sym rest)
          (subst (λ (k : ℕ). ArePassed (words_of f) (next b.id) k (map (task_of word) ts)) (sym count) (passed_from f os next i b ps ts ps ts h refl h.rest));
      size =
          let a : length (map (task_of word) (filter is_scheduled zs)) ≡ length ts = length-map (filter is_scheduled zs) (task_of word) ∙ ap length rest in
          omega (arith, a, count, size);
      control = control_is t f os next i b ps ts free h;
    }
