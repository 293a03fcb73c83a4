-- A rule with a memory op at its root: what stands at the root after it has the same faults and does the same.
use Rattle.std.proofs.Common.{◌≡◌, ℕ, zero, suc, ◌<◌, ◌^◌, ◌%◌, refl, ap, subst, sym, ◌∙◌, arith, List, [], ◌∷◌, length, map, Option, Some, None}
use Rattle.std.specs.Prelude.{slice_index, unwrap_or}
use Rattle.bk_ops.specs.declared.types.Target.{Target}
use Rattle.bk_func.specs.Records.{ValueRecord, FuncRecord}
use Rattle.bk_func.specs.Numbers.{Program, Origin, phi, argument, argument_word, result, address, loaded, checked, same, computed, Env, origin_of, state_of, number_by, made_of, read_at, address_by}
use Rattle.bk_func.specs.Effects.{Effect, store, zeros, move, panic_bounds, call, call_words, out_word, ret_word, ret_words, trap, pass, effect_of}
use Rattle.bk_func.specs.Meaning.{World, Activation, Calls, fault_by, fault_at, done_by}
use Rattle.bk_rule.specs.WordSound.{Setting, value_at, itself, done_in, DoTheSame, AgreeIn, number_from, bits}
use Rattle.bk_refine_laws.specs.Possible.{MayBe}
use Rattle.bk_refine_laws.specs.Words.{setting_of}

-- the number at a place
number_in : (m : ℕ → ℕ) (xs : List ℕ) (k : ℕ) → k < length xs → m (slice_index xs k) ≡ slice_index (map m xs) k
number_in m [] k l = absurd (omega arith)
number_in m (x ∷ xs) zero l = refl
number_in m (x ∷ xs) (suc k) l = number_in m xs k (omega (arith, l))

-- the value with the numbers of its arguments in their place
abbrev pub numbered : (ℕ → ℕ) → ValueRecord → ValueRecord
numbered m v = value_at v.op v.ty v.int v.aux (map m v.args)

-- an effect of a rule, which is no call and writes no word, has as many arguments as it reads
abbrev pub Reads : Option Effect → ValueRecord → Type 0
Reads None v = Unit {0}
Reads (Some store) v = 1 < length v.args
Reads (Some zeros) v = 0 < length v.args
Reads (Some move) v = 1 < length v.args
Reads (Some panic_bounds) v = Unit {0}
Reads (Some trap) v = Unit {0}
Reads (Some pass) v = Unit {0}
Reads (Some call) v = ⊥
Reads (Some call_words) v = ⊥
Reads (Some out_word) v = ⊥
Reads (Some ret_word) v = ⊥
Reads (Some ret_words) v = ⊥

pub done_numbered : (e : Option Effect) (calls : Calls) (p : Program) (m : ℕ → ℕ) (v : ValueRecord) (a : Activation) (w : World) → Reads e v → done_by e calls p m v a w ≡ done_by e calls p itself (numbered m v) a w
done_numbered None calls p m v a w h = refl
done_numbered (Some store) calls p m v a w h = rw (number_in m v.args 0 (omega (arith, h)), number_in m v.args 1 h) refl
done_numbered (Some zeros) calls p m v a w h = rw (number_in m v.args 0 h) refl
done_numbered (Some move) calls p m v a w h = rw (number_in m v.args 0 (omega (arith, h)), number_in m v.args 1 h) refl
done_numbered (Some panic_bounds) calls p m v a w h = refl
done_numbered (Some trap) calls p m v a w h = refl
done_numbered (Some pass) calls p m v a w h = refl
done_numbered (Some call) calls p m v a w h = elim h [ ]
done_numbered (Some call_words) calls p m v a w h = elim h [ ]
done_numbered (Some out_word) calls p m v a w h = elim h [ ]
done_numbered (Some ret_word) calls p m v a w h = elim h [ ]
done_numbered (Some ret_words) calls p m v a w h = elim h [ ]

pub fault_numbered : (o : Origin) (t : Target) (m : ℕ → ℕ) (d : List ℕ) (v : ValueRecord) → 0 < length v.args → fault_by o t m d v ≡ fault_by o t itself d (numbered m v)
fault_numbered phi t m d v h = refl
fault_numbered argument t m d v h = refl
fault_numbered argument_word t m d v h = refl
fault_numbered result t m d v h = refl
fault_numbered address t m d v h = refl
fault_numbered loaded t m d v h = rw (number_in m v.args 0 h) refl
fault_numbered checked t m d v h = rw (number_in m v.args 0 h) refl
fault_numbered same t m d v h = refl
fault_numbered computed t m d v h = refl

-- ---- values that do the same
-- trees stand in a window, whatever the state
abbrev pub in_window : Program → List ℕ → Setting
in_window p d = setting_of p (λ n. d)

same_done : (e u : Option Effect) (calls : Calls) (p : Program) (l r : ValueRecord) (a : Activation) (w : World) →
    done_in e p.target (in_window p w.window) calls p.pkg p.places p.frames a w.left l ≡ done_in u p.target (in_window p w.window) calls p.pkg p.places p.frames a w.left r →
    done_by e calls p itself l a w ≡ done_by u calls p itself r a w
same_done None None calls p l r a w h = refl
same_done None (Some u) calls p l r a w h = absurd cc
same_done (Some e) None calls p l r a w h = absurd cc
same_done (Some e) (Some u) calls p l r a w h = (let q : done_by (Some e) calls p itself l a w ≡ done_by (Some u) calls p itself r a w = cc in q)

-- what a sound rule makes at the root does what the root did, in each world
pub does_alike : (calls : Calls) (p : Program) (m : ℕ → ℕ) (v u : ValueRecord) (a : Activation) (w : World) → Reads (effect_of v.op.family v.ty) v → Reads (effect_of u.op.family u.ty) u →
    DoTheSame p.target (in_window p w.window) (numbered m v) (numbered m u) →
    done_by (effect_of v.op.family v.ty) calls p m v a w ≡ done_by (effect_of u.op.family u.ty) calls p m u a w
does_alike calls p m v u a w x y h =
    done_numbered (effect_of v.op.family v.ty) calls p m v a w x
    ∙ same_done (effect_of v.op.family v.ty) (effect_of u.op.family u.ty) calls p (numbered m v) (numbered m u) a w (h.2 calls p.pkg p.places p.frames a w.left)
    ∙ sym (done_numbered (effect_of u.op.family u.ty) calls p m u a w y)

-- and has its faults, in each window
pub faults_alike : (p : Program) (m : ℕ → ℕ) (v u : ValueRecord) (d : List ℕ) → 0 < length v.args → 0 < length u.args → DoTheSame p.target (in_window p d) (numbered m v) (numbered m u) →
    fault_at p.target m d v ≡ fault_at p.target m d u
faults_alike p m v u d x y h =
    fault_numbered (origin_of v.op.family) p.target m d v x ∙ h.1 ∙ sym (fault_numbered (origin_of u.op.family) p.target m d u y)

-- ---- loads
load_number : (p : Program) (f : FuncRecord) (e : Env) (m : ℕ → ℕ) (v : ValueRecord) (d : List ℕ) → d ≡ e.windows (unwrap_or (state_of f v) 0) → 0 < length v.args →
    made_of v.op.family v.ty v.op.a (read_at p.target (numbered m v) d (address_by p.target (numbered m v) itself)) ≡ number_by loaded p f e m v
load_number p f e m v d h l = rw (h, ← number_in m v.args 0 l) refl

-- what a load that a sound rule makes may give, the load that stood there may give, where both name states of one window
pub load_alike : (p : Program) (f g : FuncRecord) (e : Env) (m : ℕ → ℕ) (v u : ValueRecord) (d : List ℕ) (n : ℕ) → d ≡ e.windows (unwrap_or (state_of f v) 0) → d ≡ e.windows (unwrap_or (state_of g u) 0) →
    0 < length v.args → 0 < length u.args → origin_of v.op.family ≡ loaded → origin_of u.op.family ≡ loaded → DoTheSame p.target (in_window p d) (numbered m v) (numbered m u) →
    MayBe loaded p g e m u n → MayBe loaded p f e m v n
load_alike p f g e m v u d n x y k l o q h z =
    let P : Origin → Type 0 = λ c. AgreeIn (number_from c p.target (in_window p d) (numbered m v)) (bits p.target v) (number_from (origin_of u.op.family) p.target (in_window p d) (numbered m u)) (bits p.target u) in
    let Q : Origin → Type 0 = λ c. AgreeIn (number_from loaded p.target (in_window p d) (numbered m v)) (bits p.target v) (number_from c p.target (in_window p d) (numbered m u)) (bits p.target u) in
    let r = subst Q q (subst P o h.0) in
    r n (z ∙ ap (λ j. j % 2 ^ bits p.target u) (sym (load_number p g e m u d y l))) ∙ ap (λ j. j % 2 ^ bits p.target v) (load_number p f e m v d x k)
