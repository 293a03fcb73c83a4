-- A visit and what is known of it, as one; what its values name, and the signatures that they speak of.
use Rattle.std.proofs.Common.{◌≡◌, ℕ, ◌==◌, refl, ap, sym, subst, ◌∙◌, arith, ◌⊎◌, inl, inr, List, [], ◌∷◌, Some, true, false}
use Rattle.std.specs.Prelude.{slice_get, sum_by, count_by}
use Rattle.std.proofs.lemmas.List.Sums.{sum_by-cons}
use Rattle.bk_form_laws.proofs.Lists.{none_counted}
use Rattle.std.proofs.lemmas.Bool.{cases_eq}
use Rattle.std.proofs.lemmas.List.Elements.{All-contains}
use Rattle.bk_ops.specs.Families.{is_call, is_word_call, is_call_result}
use Rattle.bk_ops.specs.declared.family.Family.{Family}
use Rattle.bk_ops.specs.declared.family.Family.TheVariants as op
use Rattle.bk_func.specs.Records.{ValueRecord, BlockRecord, FuncRecord}
use Rattle.bk_func.specs.declared.form.FormKind.TheVariants.{Missing}
use Rattle.bk_func.specs.Form.{Keeps}
use Rattle.bk_func.specs.Form.Text.{HasBlock, HasValue}
use Rattle.bk_func.specs.Form.States.{CopiesMemory, StandsFor, itself, copied, Names}
use Rattle.bk_func.specs.Form.Signatures.{Setting}
use Rattle.bk_func.specs.Form.Parts.{IsValueNumber}
use Rattle.bk_func.proofs.Faults.{In}
use Rattle.bk_refine_laws.specs.Visits.{edited}
use Rattle.bk_form_laws.specs.Visits.{visited, Visit, IsNew}
use Rattle.bk_form_laws.specs.Fits.{IsThere, is_special, SameNames}
use Rattle.bk_places.proofs.Elements.{to_contains}
use Rattle.bk_mean.proofs.Named.{IsNamed, is_named, got_in, borne}
use Rattle.bk_form_laws.proofs.Pairs.{Pair, Turned, partner}
use Rattle.bk_form_laws.proofs.Turning.{turned, over, each_value, old_in, new_in, old_here, block_here}

pub record Step : Type 0 where
  pub s : Setting
  pub f : FuncRecord
  pub b : ℕ
  pub k : ℕ
  pub x : BlockRecord
  pub v : ValueRecord
  pub root : ValueRecord
  pub made : List ValueRecord
  pub visit : Visit f b k x v root made
  pub missing : Keeps s f Missing
  pub plain : (w : ValueRecord) → In w made → is_special w.op.family ≡ false

abbrev pub after : Step → FuncRecord
after t = visited t.f t.b t.k t.x t.root t.made

abbrev pub block_after : Step → BlockRecord
block_after t = edited t.x t.k t.root t.made

abbrev pub Pairs : Step → BlockRecord → BlockRecord → Type 0
Pairs t c d = Pair t.f (after t) t.x (block_after t) c d

pub named_before : (t : Step) → IsNamed t.f
named_before t = is_named t.s t.f t.missing

pub here : (t : Step) → HasValue t.f t.x t.v
here t = old_here t.f t.b t.k t.x t.v t.root t.made t.visit

pub pair_here : (t : Step) → Pairs t t.x (block_after t)
pair_here t = block_here t.f t.b t.k t.x t.v t.root t.made t.visit

pub root_in : (t : Step) → HasValue (after t) (block_after t) t.root
root_in t = new_in t.f t.b t.k t.x t.v t.root t.made t.visit t.root (inl refl)

pub turned_at : (t : Step) → Turned t.f (after t) t.x (block_after t)
turned_at t = turned t.f t.b t.k t.x t.v t.root t.made (named_before t) t.visit

pub partner_at : (t : Step) (c : BlockRecord) → HasBlock t.f c → (d : BlockRecord) × Pairs t c d
partner_at t c h = partner t.f (after t) t.x (block_after t) (over t.f t.b t.k t.x t.v t.root t.made t.visit) c h

pub stays : (t : Step) (c d : BlockRecord) (u : ValueRecord) → Pairs t c d → HasValue t.f c u → ¬ (u.id ≡ t.v.id) → HasValue (after t) d u
stays t c d u p h a = old_in t.f t.b t.k t.x t.v t.root t.made t.visit c d p u h a

-- a value of f that bears v's number is v
pub is_v : (t : Step) (c : BlockRecord) (u : ValueRecord) → HasValue t.f c u → u.id ≡ t.v.id → (c ≡ t.x) × (u ≡ t.v)
is_v t c u h e = ((named_before t).same_block c t.x u t.v h (here t) e, (named_before t).same_value c t.x u t.v h (here t) e)

-- each value of g is root, one that was made, or an old one
pub each : (t : Step) (P : BlockRecord → ValueRecord → Type 0) → P (block_after t) t.root → ((w : ValueRecord) → In w t.made → P (block_after t) w) →
    ((c d : BlockRecord) (u : ValueRecord) → Pairs t c d → HasValue t.f c u → ¬ (u.id ≡ t.v.id) → P d u) → (d : BlockRecord) (w : ValueRecord) → HasValue (after t) d w → P d w
each t P r m o d w h = each_value t.s t.f t.b t.k t.x t.v t.root t.made t.missing t.visit P new o d w h
  where
    new : (w : ValueRecord) → IsNew t.root t.made w → P (edited t.x t.k t.root t.made) w
    new w (inl e) = (let Q : ValueRecord → Type 0 = λ z. P (edited t.x t.k t.root t.made) z in subst Q e r)
    new w (inr i) = m w i

-- ---- numbers that are there
pub there : (f : FuncRecord) (n : ℕ) → IsValueNumber f n → IsThere f n
unfolding IsValueNumber
there f n h = go f.blocks (λ c i. to_contains c f.blocks i) (omega (arith, h))
  where
    go : (bs : List BlockRecord) → ((c : BlockRecord) → In c bs → HasBlock f c) → ¬ (sum_by (λ b. count_by (λ v. v.id == n) b.values) bs ≡ 0) → IsThere f n
    go [] k z = absurd (z refl)
    go (b ∷ bs) k z = elim (borne b.values n) [
      | inl r ↦ (b, r.0, (k b (inl refl), to_contains r.0 b.values r.1), r.2)
      | inr r ↦ (go bs (λ c i. k c (inr i)) (λ e. z (let q = none_counted b.values n r in let s = sum_by-cons (λ (c : BlockRecord). count_by (λ v. v.id == n) c.values) b bs in omega (arith, q, s, e))))
    ]

pub argument_there : (t : Step) (c : BlockRecord) (u : ValueRecord) → HasValue t.f c u → (i n : ℕ) → slice_get u.args i ≡ Some n → IsThere t.f n
argument_there t c u h i n e = there t.f n (All-contains (IsValueNumber t.f) u.args n ((t.missing c h.0).value u h.1).args (to_contains n u.args (got_in u.args i n e)))

-- ---- states that numbers stand for, where neither v nor root copies memory
pub stands_over : (t : Step) → ¬ CopiesMemory t.v → ¬ CopiesMemory t.root → (n m : ℕ) → StandsFor t.f n m → StandsFor (after t) n m
stands_over t a c _ _ (itself b v h q) = elim (cases_eq v.id t.v.id) [
  | inl e ↦ (let P : ℕ → Type 0 = λ i. StandsFor (after t) i i in subst P (t.visit.same ∙ sym e) (itself (block_after t) t.root (root_in t) c))
  | inr e ↦ (let r = partner_at t b h.0 in itself r.0 v (stays t b r.0 v r.1 h e) q)
]
stands_over t a c _ _ (copied b v n m h q e k) = elim (cases_eq v.id t.v.id) [
  | inl d ↦ absurd (a (let P : ValueRecord → Type 0 = λ z. CopiesMemory z in subst P ((is_v t b v h d).1) q))
  | inr d ↦ (let r = partner_at t b h.0 in copied r.0 v n m (stays t b r.0 v r.1 h d) q e (stands_over t a c n m k))
]

-- a value of g that bears an old number
abbrev Old : (t : Step) → BlockRecord → ValueRecord → Type 0
Old t d w = IsThere t.f w.id → (w ≡ t.root) ⊎ ((c : BlockRecord) × Pairs t c d × HasValue t.f c w × ¬ (w.id ≡ t.v.id))

pub old_value : (t : Step) (d : BlockRecord) (w : ValueRecord) → HasValue (after t) d w → Old t d w
old_value t d w h = each t (Old t) (λ i. inl refl) (λ u i j. absurd (t.visit.fresh u i j.0 j.1 j.2 j.3)) (λ c d u p q a i. inr (c, p, q, a)) d w h

pub stands_back : (t : Step) → ¬ CopiesMemory t.v → ¬ CopiesMemory t.root → (n m : ℕ) → IsThere t.f n → StandsFor (after t) n m → StandsFor t.f n m
stands_back t a c _ _ i (itself b v h q) = elim (old_value t b v h i) [
  | inl e ↦ (let P : ℕ → Type 0 = λ i. StandsFor t.f i i in subst P (sym t.visit.same ∙ ap (λ (z : ValueRecord). z.id) (sym e)) (itself t.x t.v (here t) a))
  | inr r ↦ itself r.0 v r.2 q
]
stands_back t a c _ _ i (copied b v n m h q e k) = elim (old_value t b v h i) [
  | inl d ↦ absurd (c (let P : ValueRecord → Type 0 = λ z. CopiesMemory z in subst P d q))
  | inr r ↦ copied r.0 v n m r.2 q e (stands_back t a c n m (argument_there t r.0 v r.2 0 n e) k)
]

-- what old values name
pub names_over : (t : Step) → SameNames t.f (after t) t.v t.root t.made → (u : ValueRecord) (n : ℕ) → Names t.f u n → Names (after t) u n
names_over t h u n (k, m, a, e, s) = (k, m, a, e, h.stands m n s)

pub names_back : (t : Step) → SameNames t.f (after t) t.v t.root t.made → (c : BlockRecord) (u : ValueRecord) → HasValue t.f c u → (n : ℕ) → Names (after t) u n → Names t.f u n
names_back t h c u i n (k, m, a, e, s) = (k, m, a, e, h.stands_back m n (argument_there t c u i k m e) s)

-- ---- families
pub no_result : (o : Family) → is_special o ≡ false → is_call_result o ≡ false
no_result op.SelectN z = absurd cc
no_result op.ResWord z = absurd cc
no_result op.ResReg z = absurd cc
no_result _ z = refl

pub no_call : (o : Family) → is_special o ≡ false → is_call o ≡ false
no_call op.StaticLECall z = absurd cc
no_call op.Call z = absurd cc
no_call op.CallRegs z = absurd cc
no_call _ z = refl

pub word_call : (o : Family) → is_word_call o ≡ true → is_call o ≡ true
word_call op.Call e = refl
word_call op.CallRegs e = refl
word_call _ e = absurd cc
