-- The call that the word of an argument goes to stays the one that it was.
use Rattle.std.proofs.Common.{◌≡◌, ℕ, ◌==◌, refl, ap, sym, subst, ◌∙◌, arith, ◌⊎◌, inl, inr, Some, Bool, true, false}
use Rattle.std.specs.Prelude.{slice_get, count_by}
use Rattle.std.proofs.lemmas.Bool.{cases_eq}
use Rattle.bk_ops.specs.Families.{is_word_call}
use Rattle.bk_ops.specs.declared.family.Family.{Family}
use Rattle.bk_ops.specs.declared.family.Family.TheVariants as op
use Rattle.bk_func.specs.Records.{ValueRecord, BlockRecord, FuncRecord, SigRecord, PackageRecord}
use Rattle.bk_func.specs.Form.Text.{HasValue}
use Rattle.bk_func.specs.Form.States.{Names}
use Rattle.bk_func.specs.Form.Signatures.{IsBefore, last, before, ArgumentOf, sig_of}
use Rattle.bk_func.specs.Form.Parts.{IsBlockNumber}
use Rattle.bk_func.proofs.Faults.{In}
use Rattle.bk_form_laws.specs.Fits.{is_special, Replaces, SameNames}
use Rattle.bk_form_laws.proofs.Lists.{set_here, one_place}
use Rattle.bk_form_laws.proofs.Pairs.{one_partner}
use Rattle.bk_form_laws.proofs.Steps.{Step, after, block_after, Pairs, here, pair_here, root_in, partner_at, turned_at, stays, is_v, each, names_over, names_back, word_call}

-- a family of those that say what a value is to others is had by the second where the first has it
abbrev pub Stays : Family → Family → Type 0
Stays a b = (o : Family) → is_special o ≡ true → a ≡ o → b ≡ o

pub word_call_stays : (a b : Family) → Stays a b → is_word_call a ≡ true → is_word_call b ≡ true
word_call_stays op.Call b h e = ap is_word_call (h op.Call refl refl)
word_call_stays op.CallRegs b h e = ap is_word_call (h op.CallRegs refl refl)
word_call_stays _ b h e = absurd cc

word_same : (a b : Family) → Stays a b → Stays b a → is_word_call b ≡ is_word_call a
word_same a b h k = go (is_word_call a) refl (is_word_call b) refl
  where
    go : (x : Bool) → is_word_call a ≡ x → (y : Bool) → is_word_call b ≡ y → y ≡ x
    go true e true d = refl
    go true e false d = absurd (let z = word_call_stays a b h e in cc)
    go false e true d = absurd (let z = word_call_stays b a k d in cc)
    go false e false d = refl

plain_word : (o : Family) → is_special o ≡ false → is_word_call o ≡ false
plain_word op.Call z = absurd cc
plain_word op.CallRegs z = absurd cc
plain_word _ z = refl

-- ---- partners
pub only_pair : (t : Step) (d : BlockRecord) → Pairs t t.x d → block_after t ≡ d
unfolding IsBlockNumber
only_pair t d p =
    let l : count_by (λ b. b.id == t.x.id) t.f.blocks ≡ 1 = (t.missing t.x (here t).0).block.own in
    let e : t.b ≡ p.place = one_place t.f.blocks t.x.id t.b p.place t.x t.x (omega (arith, l)) t.visit.there p.old refl refl in
    let q : Some (block_after t) ≡ Some d = sym (set_here t.f.blocks t.b t.x (block_after t) t.visit.there) ∙ (ap (λ i. slice_get (after t).blocks i) e ∙ p.new) in
    cc

only_old : (t : Step) (b c d : BlockRecord) → Pairs t b d → Pairs t c d → b ≡ c
only_old t b c d p q = one_partner t.f (after t) t.x (block_after t) (turned_at t).shape (turned_at t).named b c d p q

-- w of g stands for u of f: it is u, or root where u is v
record Mate (t : Step) (d : BlockRecord) (u w : ValueRecord) : Type 0 where
  stands : HasValue (after t) d w
  same : ((w ≡ u) × ¬ (u.id ≡ t.v.id)) ⊎ ((w ≡ t.root) × (u ≡ t.v))

mate : (t : Step) (c d : BlockRecord) → Pairs t c d → (u : ValueRecord) → HasValue t.f c u → (w : ValueRecord) × Mate t d u w
mate t c d p u h = elim (cases_eq u.id t.v.id) [
  | inl e ↦ (let i = is_v t c u h e in
      let p2 : Pairs t t.x d = (let P : BlockRecord → Type 0 = λ z. Pairs t z d in subst P i.0 p) in
      (t.root, record { stands = (let P : BlockRecord → Type 0 = λ z. HasValue (after t) z t.root in subst P (only_pair t d p2) (root_in t)); same = inr (refl, i.1) }))
  | inr e ↦ (u, record { stands = stays t c d u p h e; same = inl (refl, e) })
]

-- what a value of g stands for, where it was not made
record Origin (t : Step) (d : BlockRecord) (w : ValueRecord) : Type 0 where
  block : BlockRecord
  value : ValueRecord
  pair : Pairs t block d
  stood : HasValue t.f block value
  mates : Mate t d value w

origin : (t : Step) (d : BlockRecord) (w : ValueRecord) → HasValue (after t) d w → In w t.made ⊎ Origin t d w
origin t d w h = each t (λ d w. In w t.made ⊎ Origin t d w)
    (inr (record { block = t.x; value = t.v; pair = pair_here t; stood = here t; mates = record { stands = root_in t; same = inr (refl, refl) } }))
    (λ w i. inl i)
    (λ c d u p q a. inr (record { block = c; value = u; pair = p; stood = q; mates = record { stands = stays t c d u p q a; same = inl (refl, a) } })) d w h

mate_id : (t : Step) (d : BlockRecord) (u w : ValueRecord) → Mate t d u w → w.id ≡ u.id
mate_id t d u w m = elim m.same [
  | inl e ↦ ap (λ (y : ValueRecord). y.id) e.0
  | inr e ↦ ap (λ (y : ValueRecord). y.id) e.0 ∙ (t.visit.same ∙ sym (ap (λ (y : ValueRecord). y.id) e.1))
]

mate_stays : (t : Step) → Replaces t.s.target t.v t.root → (d : BlockRecord) (u w : ValueRecord) → Mate t d u w → Stays u.op.family w.op.family × Stays w.op.family u.op.family
mate_stays t r d u w m = elim m.same as (λ _. Stays u.op.family w.op.family × Stays w.op.family u.op.family) [
  | inl e ↦ (let q = ap (λ (y : ValueRecord). y.op.family) e.0 in (λ o z k. q ∙ k, λ o z k. sym q ∙ k))
  | inr e ↦ (let a = ap (λ (y : ValueRecord). y.op.family) e.0 in
      let b = ap (λ (y : ValueRecord). y.op.family) e.1 in
      (λ o z k. a ∙ r.special o z (sym b ∙ k), λ o z k. b ∙ r.special_back o z (sym a ∙ k)))
]

mate_names : (t : Step) → SameNames t.f (after t) t.v t.root t.made → (d : BlockRecord) (u w : ValueRecord) → Mate t d u w → (n : ℕ) → Names t.f u n → Names (after t) w n
mate_names t h d u w m n k = elim m.same as (λ _. Names (after t) w n) [
  | inl e ↦ (let P : ValueRecord → Type 0 = λ z. Names (after t) z n in subst P (sym e.0) (names_over t h u n k))
  | inr e ↦ (let P : ValueRecord → Type 0 = λ z. Names (after t) z n in let Q : ValueRecord → Type 0 = λ z. Names t.f z n in subst P (sym e.0) (h.of_root n (subst Q e.1 k)))
]

mate_names_back : (t : Step) → SameNames t.f (after t) t.v t.root t.made → (c d : BlockRecord) (u w : ValueRecord) → HasValue t.f c u → Mate t d u w → (n : ℕ) → Names (after t) w n → Names t.f u n
mate_names_back t h c d u w i m n k = elim m.same as (λ _. Names t.f u n) [
  | inl e ↦ (let P : ValueRecord → Type 0 = λ z. Names (after t) z n in names_back t h c u i n (subst P e.0 k))
  | inr e ↦ (let P : ValueRecord → Type 0 = λ z. Names (after t) z n in let Q : ValueRecord → Type 0 = λ z. Names t.f z n in subst Q (sym e.1) (h.of_root_back n (subst P e.0 k)))
]

-- a call has the signature that its mate has
mate_sig : (t : Step) → Replaces t.s.target t.v t.root → (d : BlockRecord) (u w : ValueRecord) → Mate t d u w → is_word_call u.op.family ≡ true → (p : PackageRecord) → sig_of p w.aux ≡ sig_of p u.aux
mate_sig t r d u w m k p = elim m.same [
  | inl e ↦ ap (λ (y : ValueRecord). sig_of p y.aux) e.0
  | inr e ↦ (let c : is_word_call t.v.op.family ≡ true = ap (λ (y : ValueRecord). is_word_call y.op.family) (sym e.1) ∙ k in
      ap (λ (y : ValueRecord). sig_of p y.aux) e.0 ∙ (ap (sig_of p) (r.aux (word_call t.v.op.family c)) ∙ ap (λ (y : ValueRecord). sig_of p y.aux) (sym e.1)))
]

-- ---- calls behind words
abbrev Behind : PackageRecord → FuncRecord → BlockRecord → ValueRecord → SigRecord → Type 0
Behind p f b u g = (c : ValueRecord) × IsBefore f b u c × (sig_of p c.aux ≡ Some g)

behind_over : (t : Step) → Replaces t.s.target t.v t.root → SameNames t.f (after t) t.v t.root t.made → (p : PackageRecord) (g : SigRecord) (c d : BlockRecord) → Pairs t c d → (u k w : ValueRecord) → IsBefore t.f c u k →
    sig_of p k.aux ≡ Some g → Mate t d u w → Behind p (after t) d w g
behind_over t r h p g c d q _ _ w (last u k hu hk i n) e m =
    let (z, mz) = mate t c d q k hk in
    let s = mate_stays t r d k z mz in (
      z,
      last w z m.stands mz.stands (word_same k.op.family z.op.family s.0 s.1 ∙ i) (subst (λ a. Names (after t) z a) (sym (mate_id t d u w m)) (mate_names t h d k z mz u.id n)),
      mate_sig t r d k z mz i p ∙ e,
    )
behind_over t r h p g c d q _ _ w (before u y k hu hy a i n l) e m =
    let (z, mz) = mate t c d q y hy in
    let s = mate_stays t r d y z mz in
    let (b, lb, eb) = behind_over t r h p g c d q y k z l e mz in (
      b,
      before w z b m.stands mz.stands (λ x. a (s.1 op.Phi refl x)) (word_same y.op.family z.op.family s.0 s.1 ∙ i) (subst (λ a. Names (after t) z a) (sym (mate_id t d u w m)) (mate_names t h d y z mz u.id n)) lb,
      eb,
    )

behind_back : (t : Step) → Replaces t.s.target t.v t.root → SameNames t.f (after t) t.v t.root t.made → (p : PackageRecord) (g : SigRecord) (c d : BlockRecord) → Pairs t c d → (w k u : ValueRecord) → IsBefore (after t) d w k →
    sig_of p k.aux ≡ Some g → HasValue t.f c u → Mate t d u w → Behind p t.f c u g
behind_back t r h p g c d q _ _ u (last w k hw hk i n) e hu m = elim (origin t d k hk) as (λ _. Behind p t.f c u g) [
  | inl j ↦ absurd (let z = plain_word k.op.family (t.plain k j) in cc)
  | inr o ↦ (let s = mate_stays t r d o.value k o.mates in
      let same : o.block ≡ c = only_old t o.block c d o.pair q in
      let ho : HasValue t.f c o.value = (let P : BlockRecord → Type 0 = λ y. HasValue t.f y o.value in subst P same o.stood) in
      let i2 : is_word_call o.value.op.family ≡ true = sym (word_same o.value.op.family k.op.family s.0 s.1) ∙ i in (
        o.value,
        last u o.value hu ho i2 (mate_names_back t h c d o.value k ho o.mates u.id (subst (λ a. Names (after t) k a) (mate_id t d u w m) n)),
        sym (mate_sig t r d o.value k o.mates i2 p) ∙ e,
      ))
]
behind_back t r h p g c d q _ _ u (before w y k hw hy a i n l) e hu m = elim (origin t d y hy) as (λ _. Behind p t.f c u g) [
  | inl j ↦ absurd (h.of_made y j w.id n)
  | inr o ↦ (let s = mate_stays t r d o.value y o.mates in
      let same : o.block ≡ c = only_old t o.block c d o.pair q in
      let ho : HasValue t.f c o.value = (let P : BlockRecord → Type 0 = λ y. HasValue t.f y o.value in subst P same o.stood) in
      let i2 : is_word_call o.value.op.family ≡ false = sym (word_same o.value.op.family y.op.family s.0 s.1) ∙ i in
      let b = behind_back t r h p g c d q y k o.value l e ho o.mates in (
        b.0,
        before u o.value b.0 hu ho (λ x. a (s.0 op.Phi refl x)) i2 (mate_names_back t h c d o.value y ho o.mates u.id (subst (λ a. Names (after t) y a) (mate_id t d u w m) n)) b.1,
        b.2,
      ))
]

stands_there : (f : FuncRecord) (b : BlockRecord) (u k : ValueRecord) → IsBefore f b u k → HasValue f b u
stands_there f b _ _ (last u k hu hk i n) = hu
stands_there f b _ _ (before u y k hu hy a i n l) = hu

-- signatures of arguments, of old values other than v
pub argument_over : (t : Step) → Replaces t.s.target t.v t.root → SameNames t.f (after t) t.v t.root t.made → (p : PackageRecord) (c : BlockRecord) (u : ValueRecord) → HasValue t.f c u → ¬ (u.id ≡ t.v.id) → (g : SigRecord) →
    ArgumentOf p t.f u g → ArgumentOf p (after t) u g
argument_over t r h p c u i y g (b, k, l, e) =
    let hb = stands_there t.f b u k l in
    let (d, q) = partner_at t b hb.0 in
    let z = behind_over t r h p g b d q u k u l e (record { stands = stays t b d u q hb y; same = inl (refl, y) }) in
    (d, z.0, z.1, z.2)

pub argument_back : (t : Step) → Replaces t.s.target t.v t.root → SameNames t.f (after t) t.v t.root t.made → (p : PackageRecord) (c : BlockRecord) (u : ValueRecord) → HasValue t.f c u → ¬ (u.id ≡ t.v.id) → (g : SigRecord) →
    ArgumentOf p (after t) u g → ArgumentOf p t.f u g
argument_back t r h p c u i y g (b, k, l, e) = elim (origin t b u (stands_there (after t) b u k l)) as (λ _. ArgumentOf p t.f u g) [
  | inl j ↦ absurd (t.visit.fresh u j c u i refl)
  | inr o ↦ (let z = behind_back t r h p g o.block b o.pair u k o.value l e o.stood o.mates in
      elim o.mates.same as (λ _. ArgumentOf p t.f u g) [
        | inl q ↦ (o.block, z.0, (let P : ValueRecord → Type 0 = λ y. IsBefore t.f o.block y z.0 in subst P (sym q.0) z.1), z.2)
        | inr q ↦ absurd (y (ap (λ (y : ValueRecord). y.id) q.0 ∙ t.visit.same))
      ])
]
