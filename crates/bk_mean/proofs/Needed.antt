-- What a value needs in its block, as a test and as a relation.
use Rattle.std.proofs.Common.{◌≡◌, ℕ, zero, suc, ◌<◌, refl, sym, subst, arith, ◌⊎◌, inl, inr, Option, Some, None, Bool, true, false, ◌||◌, ◌==◌, not, eq-eqb}
use Rattle.std.specs.List.{list_any}
use Rattle.std.proofs.lemmas.Bool.{eqb-true, and_parts, or_cases, or_left, or_right, not-true}
use Rattle.bk_func.specs.Records.{ValueRecord, BlockRecord, FuncRecord}
use Rattle.bk_func.specs.Numbers.{origin_of, value_in, room}
use Rattle.bk_func.specs.Effects.{needs, is_phi}
use Rattle.bk_func.specs.Form.Text.{HasBlock, HasValue}
use Rattle.bk_func.specs.Form.Walks.{IsReached}
use Rattle.bk_func.specs.Form.Before.{IsTakenBy, Needs, takes, through}
use Rattle.bk_func.specs.Form.Signatures.{Setting}
use Rattle.bk_func.proofs.Faults.{In}
use Rattle.bk_func.proofs.Needs.{any_in, in_any, found_in}
use Rattle.bk_places.proofs.Elements.{to_in, to_contains}
use Rattle.bk_mean.proofs.Named.{found_here}
use Rattle.bk_mean.proofs.Roles.{no_phi, not_phi}
use Rattle.bk_mean.proofs.Formed.{Sound}
use Rattle.bk_mean.proofs.Ranks.{rank, argument_falls}

-- u needs v in the block
abbrev pub need : FuncRecord → BlockRecord → ValueRecord → ValueRecord → Bool
need f b u v = needs (room f) b (Some u) v.id

nothing_needs : (k : ℕ) (b : BlockRecord) (n : ℕ) → needs k b None n ≡ true → ⊥
unfolding needs
nothing_needs zero b n e = cc
nothing_needs (suc k) b n e = cc

taken : (f : FuncRecord) → (b : BlockRecord) (u v : ValueRecord) → HasValue f b u → HasValue f b v → is_phi (origin_of u.op.family) ≡ false → In v.id u.args → IsTakenBy b v u
taken f b u v i j p k = (j.1, i.1, no_phi u p, to_contains v.id u.args k)

-- what the test finds is needed
pub needs_true : (s : Setting) (f : FuncRecord) → Sound s f → (k : ℕ) (b : BlockRecord) (u v : ValueRecord) → HasValue f b u → HasValue f b v → needs k b (Some u) v.id ≡ true → Needs b u v
unfolding needs
needs_true s f h zero b u v i j e = absurd cc
needs_true s f h (suc k) b u v i j e =
    let q = and_parts (not (is_phi (origin_of u.op.family))) (list_any (λ a. a == v.id || needs k b (value_in b.values a) v.id) u.args) e in
    let a = any_in (λ a. a == v.id || needs k b (value_in b.values a) v.id) u.args q.1 in
    go a.0 a.1 (not-true (is_phi (origin_of u.op.family)) q.0) (or_cases (a.0 == v.id) (needs k b (value_in b.values a.0) v.id) a.2) (value_in b.values a.0) refl
    (λ w iw d. needs_true s f h k b w v iw j d)
  where
    go : (a : ℕ) → In a u.args → is_phi (origin_of u.op.family) ≡ false → ((a == v.id) ≡ true) ⊎ (needs k b (value_in b.values a) v.id ≡ true) →
        (o : Option ValueRecord) → value_in b.values a ≡ o → ((w : ValueRecord) → HasValue f b w → needs k b (Some w) v.id ≡ true → Needs b w v) → Needs b u v
    go a l p (inl d) o t rest = takes v u (taken f b u v i j p (let P : ℕ → Type 0 = λ x. In x u.args in subst P (eqb-true a v.id d) l))
    go a l p (inr d) None t rest = absurd (nothing_needs k b v.id (let P : Option ValueRecord → Type 0 = λ x. needs k b x v.id ≡ true in subst P t d))
    go a l p (inr d) (Some w) t rest =
        let y = found_in b.values a w t in
        let iw : HasValue f b w = (i.0, to_contains w b.values y.0) in
        through v w u (taken f b u w i iw p (let P : ℕ → Type 0 = λ x. In x u.args in subst P (sym y.1) l)) (rest w iw (let P : Option ValueRecord → Type 0 = λ x. needs k b x v.id ≡ true in subst P t d))

test_here : (k : ℕ) (b : BlockRecord) (u : ValueRecord) (n a : ℕ) → is_phi (origin_of u.op.family) ≡ false → In a u.args → (a == n || needs k b (value_in b.values a) n) ≡ true → needs (suc k) b (Some u) n ≡ true
unfolding needs
test_here k b u n a p i e = rw p (in_any (λ a. a == n || needs k b (value_in b.values a) n) u.args a i e)

-- what is needed the test finds, with more room than the value's rank
pub true_needs : (s : Setting) (f : FuncRecord) → Sound s f → (b : BlockRecord) → IsReached f b → HasBlock f b → (k : ℕ) (u v : ValueRecord) → rank f u.id < k → Needs b u v → needs k b (Some u) v.id ≡ true
true_needs s f h b r i zero u v l n = absurd (omega arith)
true_needs s f h b r i (suc k) u v l (takes _ _ t) =
    test_here k b u v.id v.id (not_phi u t.2) (to_in v.id u.args t.3) (or_left (v.id == v.id) (needs k b (value_in b.values v.id) v.id) (eq-eqb v.id v.id refl))
true_needs s f h b r i (suc k) u v l (through _ w _ t n) =
    let less = (argument_falls s f h b u (i, t.1) r t.2 w.id (to_in w.id u.args t.3)).1 in
    let q = true_needs s f h b r i k w v (omega (arith, l, less)) n in
    let P : Option ValueRecord → Type 0 = λ o. needs k b o v.id ≡ true in
    test_here k b u v.id w.id (not_phi u t.2) (to_in w.id u.args t.3)
    (or_right (w.id == v.id) (needs k b (value_in b.values w.id) v.id) (subst P (sym (found_here f h.named b w (i, t.0))) q))

-- what a value needs ranks below it
pub needs_rank : (s : Setting) (f : FuncRecord) → Sound s f → (b : BlockRecord) → IsReached f b → (u v : ValueRecord) → HasValue f b u → Needs b u v → rank f v.id < rank f u.id
needs_rank s f h b r u v i (takes _ _ t) = (argument_falls s f h b u i r t.2 v.id (to_in v.id u.args t.3)).1
needs_rank s f h b r u v i (through _ w _ t n) =
    let q = needs_rank s f h b r w v (i.0, t.0) n in
    let a = (argument_falls s f h b u i r t.2 w.id (to_in w.id u.args t.3)).1 in
    omega (arith, q, a)
