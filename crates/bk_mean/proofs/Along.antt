-- Numbers along the run of a block: which stay where the block is entered, and which stay where a memory value is done.
use Rattle.std.proofs.Common.{◌≡◌, ℕ, zero, suc, refl, ap, sym, ◌∙◌, subst, inl, inr, List, [], ◌∷◌, map, Option, Some, None, Bool, true, false, cond, ◌&&◌, ◌==◌, eq-eqb}
use Rattle.std.specs.Prelude.{find, if◌then◌else◌, slice_index, count_by, ◌%◌, ◌^◌}
use Rattle.std.specs.List.{Contains}
use Rattle.std.proofs.lemmas.Bool.{eqb-true}
use Rattle.bk_ops.specs.Types.{word_width}
use Rattle.bk_ops.specs.Memory.{number_at, with_number, with_zeros, do_overlap}
use Rattle.bk_func.specs.Records.{ValueRecord, BlockRecord, FuncRecord}
use Rattle.bk_func.specs.Numbers.{Program, Env, value_in, natural, numbers, address_by, state_of}
use Rattle.bk_func.specs.Effects.{Effect, store, zeros, move, panic_bounds, call, call_words, out_word, ret_word, ret_words, trap, pass, effect_of, has_effect, is_at, next_at, onward, chain, chain_from, order}
use Rattle.bk_func.specs.Symbols.{symbol_of, sig_of}
use Rattle.bk_func.specs.Meaning.{Outcome, wild, World, Run, gives, stops, bind, Activation, put, Calls, halted, first_fault, checked_at, store_size, stored_of, with_window, moved, without_memory, with_given, words_sent, done_by, in_state, done_at, performed, phi_by, is_first_state, state_or, first_state, entered}
use Rattle.bk_func.specs.Form.Text.{Defines}
use Rattle.bk_func.specs.Form.Walks.{IsReached, IsDefinedAt}
use Rattle.bk_func.specs.Form.Before.{Needs}
use Rattle.bk_func.specs.Form.Signatures.{Setting}
use Rattle.bk_func.proofs.Faults.{In}
use Rattle.bk_func.proofs.Needs.{found_in}
use Rattle.bk_places.proofs.Elements.{to_contains}
use Rattle.bk_mean.proofs.Dominance.{reached_block}
use Rattle.bk_mean.proofs.Formed.{Sound}
use Rattle.bk_mean.proofs.Steady.{Agree, Differs, steady, steady_before}

-- what holds of what a part of a run gives
abbrev pub IfGives : {A : Type 0} → Run A → (A → World → Type 0) → Type 0
IfGives (gives a w) R = R a w
IfGives (stops o d) R = Unit {0}

pub then_gives : {A B : Type 0} (r : Run A) (go : A → World → Run B) (R : A → World → Type 0) (S : B → World → Type 0) → IfGives r R → ((a : A) (w : World) → R a w → IfGives (go a w) S) → IfGives (bind r go) S
then_gives (gives a w) go R S h k = k a w h
then_gives (stops o d) go R S h k = tt

-- the window at the state of memory is the one at hand
abbrev pub IsShown : Activation → World → Type 0
IsShown a w = a.env.windows a.memory ≡ w.window

abbrev pub Nowhere : ℕ → Type 0
Nowhere n = ⊥

-- agreement

pub agree_self : (e : Env) (P Q : ℕ → Type 0) → Agree e e P Q
agree_self e P Q = record { args = refl; phis = λ n h. refl; given = λ n h. refl; windows = λ n h. refl }

pub agree_onward : (d e g : Env) (P Q : ℕ → Type 0) → Agree d e P Q → Agree e g P Q → Agree d g P Q
agree_onward d e g P Q h k = record {
  args = h.args ∙ k.args;
  phis = λ n o. h.phis n o ∙ k.phis n o;
  given = λ n o. h.given n o ∙ k.given n o;
  windows = λ n o. h.windows n o ∙ k.windows n o;
}

pub agree_wider : (e d : Env) (P Q P' Q' : ℕ → Type 0) → ((n : ℕ) → P n → P' n) → ((n : ℕ) → Q n → Q' n) → Agree e d P Q → Agree e d P' Q'
agree_wider e d P Q P' Q' p q h = record {
  args = h.args;
  phis = λ n o. h.phis n (λ k. o (p n k));
  given = λ n o. h.given n (λ k. o (q n k));
  windows = λ n o. h.windows n (λ k. o (q n k));
}

put_other : {A : Type 0} (g : ℕ → A) (s : ℕ) (x : A) (n : ℕ) → ¬ (n ≡ s) → g n ≡ put g s x n
put_other {A} g s x n h = go (n == s) refl
  where
    go : (t : Bool) → (n == s) ≡ t → g n ≡ (if t then x else g n)
    go true e = absurd (h (eqb-true n s e))
    go false e = refl

put_there : {A : Type 0} (g : ℕ → A) (s : ℕ) (x : A) → put g s x s ≡ x
put_there g s x = rw (eq-eqb s s refl) refl

put_same : {A : Type 0} (g : ℕ → A) (s : ℕ) (x : A) (n : ℕ) → g s ≡ x → g n ≡ put g s x n
put_same {A} g s x n h = go (n == s) refl
  where
    go : (t : Bool) → (n == s) ≡ t → g n ≡ (if t then x else g n)
    go true e = ap g (eqb-true n s e) ∙ h
    go false e = refl

-- the entry of a block

pub entered_shown : (p : Program) (f : FuncRecord) (b : BlockRecord) (place : ℕ) (a : Activation) (w : World) → IsShown (entered p f b place a w) w
entered_shown p f b place a w = put_there a.env.windows (first_state b a.memory) w.window

pub find_in : (t : ValueRecord → Bool) (vs : List ValueRecord) (v : ValueRecord) → find t vs ≡ Some v → In v vs
find_in t [] v e = absurd cc
find_in t (u ∷ us) v e = go (t u) (find_in t us v) e
  where
    go : (b : Bool) → (find t us ≡ Some v → In v us) → cond b (Some u) (find t us) ≡ Some v → In v (u ∷ us)
    go true k q = let d : u ≡ v = cc in inl d
    go false k q = inr (k q)

-- what changes where a block is entered stands in the block
pub entered_agrees : (p : Program) (f : FuncRecord) (b : BlockRecord) (place : ℕ) (a : Activation) (w : World) → IsShown a w →
    Agree a.env (entered p f b place a w).env (Defines b) (Defines b)
entered_agrees p f b place a w h = record {
  args = refl;
  phis = λ n o. phis n o (value_in b.values n) refl;
  given = λ n o. refl;
  windows = λ n o. windows n o (find (λ v. is_first_state v.ty v.op.family) b.values) refl;
}
  where
    phis : (n : ℕ) → ¬ Defines b n → (o : Option ValueRecord) → value_in b.values n ≡ o → a.env.phis n ≡ phi_by o place (numbers p f a.env) (a.env.phis n)
    phis n o None e = refl
    phis n o (Some v) e = let q = found_in b.values n v e in absurd (o (v, to_contains v b.values q.0, q.1))

    windows : (n : ℕ) → ¬ Defines b n → (o : Option ValueRecord) → find (λ v. is_first_state v.ty v.op.family) b.values ≡ o →
        a.env.windows n ≡ put a.env.windows (state_or o a.memory) w.window n
    windows n o None e = put_same a.env.windows a.memory w.window n h
    windows n o (Some v) e =
        let i = find_in (λ v. is_first_state v.ty v.op.family) b.values v e in
        put_other a.env.windows v.id w.window n (λ q. o (v, to_contains v b.values i, sym q))

pub entered_steady : (s : Setting) (f : FuncRecord) → Sound s f → (p : Program) (b : BlockRecord) → IsReached f b → (place : ℕ) (a : Activation) (w : World) → IsShown a w →
    (n : ℕ) → IsDefinedAt f b n → ¬ Defines b n → numbers p f a.env n ≡ numbers p f (entered p f b place a w).env n
entered_steady s f h p b r place a w shown n d out =
    steady_before s f h b (Defines b) (Defines b) (record { reached = r; block = reached_block f b r; phis = λ m k. k; states = λ m k. k })
    p a.env (entered p f b place a w).env (entered_agrees p f b place a w shown) n d out

-- memory values

abbrev Changes : ℕ → Activation → Activation → World → Type 0
Changes n a d w = Agree a.env d.env Nowhere (λ m. m ≡ n)

given_changes : (a : Activation) (n : ℕ) (xs : List ℕ) → Agree a.env (with_given a n xs).env Nowhere (λ m. m ≡ n)
given_changes a n xs = record { args = refl; phis = λ m h. refl; given = λ m h. put_other a.env.given n xs m h; windows = λ m h. refl }

window_gives : (o : Option (List ℕ)) (at n : ℕ) (a : Activation) (w : World) → IfGives (with_window o at a w) (Changes n a)
window_gives None at n a w = tt
window_gives (Some d) at n a w = agree_self a.env Nowhere (λ m. m ≡ n)

moved_gives : (o : Option ℕ) (k to from n : ℕ) (a : Activation) (w : World) → IfGives (moved o k to from a w) (Changes n a)
moved_gives None k to from n a w = tt
moved_gives (Some bytes) k to from n a w = go (do_overlap k to from)
  where
    go : (t : Bool) → IfGives (if t then stops (wild to) w.window else with_window (with_number w.window k to bytes) to a w) (Changes n a)
    go true = tt
    go false = window_gives (with_number w.window k to bytes) to n a w

unless_none : (t : Bool) (r : Run Activation) (n : ℕ) (a : Activation) (w : World) → IfGives r (Changes n a) → IfGives (if t then gives a w else r) (Changes n a)
unless_none true r n a w h = agree_self a.env Nowhere (λ m. m ≡ n)
unless_none false r n a w h = h

call_gives : (r : Run (List ℕ)) (n : ℕ) (a : Activation) (go : List ℕ → World → Run Activation) → ((xs : List ℕ) (w : World) → IfGives (go xs w) (Changes n a)) → IfGives (bind r go) (Changes n a)
call_gives (gives xs w) n a go h = h xs w
call_gives (stops o d) n a go h = tt

done_by_gives : (e : Option Effect) (calls : Calls) (p : Program) (m : ℕ → ℕ) (v : ValueRecord) (a : Activation) (w : World) → IfGives (done_by e calls p m v a w) (Changes v.id a)
done_by_gives None calls p m v a w = agree_self a.env Nowhere (λ n. n ≡ v.id)
done_by_gives (Some store) calls p m v a w =
    window_gives (with_number w.window (store_size p.target v.aux v.op v.op.family) (address_by p.target v m) (stored_of v.aux v.op.family (m (slice_index v.args 1)))) (address_by p.target v m) v.id a w
done_by_gives (Some zeros) calls p m v a w =
    let to = m (slice_index v.args 0) % 2 ^ word_width p.target in
    unless_none (natural v.int == 0) (with_window (with_zeros w.window (natural v.int) to) to a w) v.id a w (window_gives (with_zeros w.window (natural v.int) to) to v.id a w)
done_by_gives (Some move) calls p m v a w =
    let to = m (slice_index v.args 0) % 2 ^ word_width p.target in
    let from = m (slice_index v.args 1) % 2 ^ word_width p.target in
    unless_none (natural v.int == 0) (moved (number_at w.window (natural v.int) from) (natural v.int) to from a w) v.id a w
    (moved_gives (number_at w.window (natural v.int) from) (natural v.int) to from v.id a w)
done_by_gives (Some panic_bounds) calls p m v a w = tt
done_by_gives (Some call) calls p m v a w =
    call_gives (calls (symbol_of v.aux) (map m (without_memory v.args)) a.stack w) v.id a (λ results w. gives (with_given a v.id results) w)
    (λ results w. given_changes a v.id results)
done_by_gives (Some call_words) calls p m v a w =
    call_gives (calls (symbol_of v.aux) (words_sent p (sig_of p.pkg (symbol_of v.aux)) (map m (without_memory v.args)) a.out) a.stack w) v.id a
    (λ results w. gives (record (with_given a v.id results) { out = λ k. 0 }) w)
    (λ results w. given_changes a v.id results)
done_by_gives (Some out_word) calls p m v a w = agree_self a.env Nowhere (λ n. n ≡ v.id)
done_by_gives (Some ret_word) calls p m v a w = agree_self a.env Nowhere (λ n. n ≡ v.id)
done_by_gives (Some ret_words) calls p m v a w = agree_self a.env Nowhere (λ n. n ≡ v.id)
done_by_gives (Some trap) calls p m v a w = tt
done_by_gives (Some pass) calls p m v a w = agree_self a.env Nowhere (λ n. n ≡ v.id)

in_state_changes : (n : ℕ) (a : Activation) (w : World) → Agree a.env (in_state n a w).env Nowhere (λ m. m ≡ n)
in_state_changes n a w = record { args = refl; phis = λ m h. refl; given = λ m h. refl; windows = λ m h. put_other a.env.windows n w.window m h }

-- where a memory value is done, what the call gave and the window change at its number alone, and the window is shown
pub done_agrees : (calls : Calls) (p : Program) (f : FuncRecord) (v : ValueRecord) (a : Activation) (w : World) →
    IfGives (done_at calls p f v a w) (λ d x. Agree a.env d.env Nowhere (λ n. n ≡ v.id) × IsShown d x × (d.memory ≡ v.id))
done_agrees calls p f v a w =
    then_gives (done_by (effect_of v.op.family v.ty) calls p (numbers p f a.env) v a w) (λ a w. gives (in_state v.id a w) w) (Changes v.id a)
    (λ d x. Agree a.env d.env Nowhere (λ n. n ≡ v.id) × IsShown d x × (d.memory ≡ v.id))
    (done_by_gives (effect_of v.op.family v.ty) calls p (numbers p f a.env) v a w)
    (λ d x h. (
      agree_onward a.env d.env (in_state v.id d x).env Nowhere (λ n. n ≡ v.id) h (in_state_changes v.id d x),
      put_there d.env.windows v.id x.window,
      refl,
    ))

-- a memory value leaves the numbers of values that need it not
pub done_steady : (s : Setting) (f : FuncRecord) → Sound s f → (calls : Calls) (p : Program) (b : BlockRecord) (v : ValueRecord) → IsReached f b → Contains b.values v → (a : Activation) (w : World) →
    IfGives (done_at calls p f v a w)
    (λ d x. (n : ℕ) → IsDefinedAt f b n → ((u : ValueRecord) → Contains b.values u → u.id ≡ n → ¬ Needs b u v) → numbers p f a.env n ≡ numbers p f d.env n)
done_steady s f h calls p b v r i a w = go (done_at calls p f v a w) (done_agrees calls p f v a w)
  where
    differs : Differs f b Nowhere (λ m. m ≡ v.id)
    differs = record { reached = r; block = reached_block f b r; phis = λ m k. elim k [ ]; states = λ m k. (v, i, sym k) }

    go : (q : Run Activation) → IfGives q (λ d x. Agree a.env d.env Nowhere (λ n. n ≡ v.id) × IsShown d x × (d.memory ≡ v.id)) →
        IfGives q (λ d x. (n : ℕ) → IsDefinedAt f b n → ((u : ValueRecord) → Contains b.values u → u.id ≡ n → ¬ Needs b u v) → numbers p f a.env n ≡ numbers p f d.env n)
    go (stops o d) k = tt
    go (gives d x) k = λ n at other.
        steady s f h b Nowhere (λ m. m ≡ v.id) differs p a.env d.env k.0 n at
        (λ u t iu it e. (
          λ z. elim z [ ],
          λ z m.
              let one = h.named.same_value b b t v (reached_block f b r, it) (reached_block f b r, i) z in
              other u iu e (let P : ValueRecord → Type 0 = λ y. Needs b u y in subst P one m),
        ))

-- the memory values of a block

pub checked_gives : (p : Program) (f : FuncRecord) (b : BlockRecord) (a : Activation) (w : World) → IfGives (checked_at p f b a w) (λ d x. (d ≡ a) × (x ≡ w))
checked_gives p f b a w = go (first_fault p.target (numbers p f a.env) w.window (order f b a.memory))
  where
    go : (o : Option Outcome) → IfGives (halted o a w) (λ d x. (d ≡ a) × (x ≡ w))
    go None = (refl, refl)
    go (Some o) = tt

-- the windows and what calls gave change in the block alone, and the window is shown
abbrev pub Within : BlockRecord → Activation → World → Activation → World → Type 0
Within b a w d x = Agree a.env d.env Nowhere (Defines b) × (IsShown a w → IsShown d x)

pub performed_agrees : (calls : Calls) (p : Program) (f : FuncRecord) (b : BlockRecord) (vs : List ValueRecord) → ((v : ValueRecord) → In v vs → Contains b.values v) → (a : Activation) (w : World) →
    IfGives (performed calls p f b vs a w) (Within b a w)
performed_agrees calls p f b [] h a w = go (checked_at p f b a w) (checked_gives p f b a w)
  where
    go : (q : Run Activation) → IfGives q (λ d x. (d ≡ a) × (x ≡ w)) → IfGives q (Within b a w)
    go (stops o d) k = tt
    go (gives d x) (e, y) =
        let P : Activation → Type 0 = λ c. Within b a w c x in
        let R : World → Type 0 = λ z. Within b a w a z in
        subst P (sym e) (subst R (sym y) (agree_self a.env Nowhere (Defines b), λ k. k))
performed_agrees calls p f b (v ∷ vs) h a w =
    then_gives (checked_at p f b a w) (λ a w. bind (done_at calls p f v a w) (λ a w. performed calls p f b vs a w)) (λ d x. (d ≡ a) × (x ≡ w)) (Within b a w) (checked_gives p f b a w)
    (λ d x k. then_gives (done_at calls p f v d x) (λ a w. performed calls p f b vs a w) (λ c y. Agree d.env c.env Nowhere (λ n. n ≡ v.id) × IsShown c y × (c.memory ≡ v.id)) (Within b a w)
    (done_agrees calls p f v d x)
    (λ c y m. next d x k c y m (performed calls p f b vs c y) (performed_agrees calls p f b vs (λ u i. h u (inr i)) c y)))
  where
    next : (d : Activation) (x : World) → (d ≡ a) × (x ≡ w) → (c : Activation) (y : World) → Agree d.env c.env Nowhere (λ n. n ≡ v.id) × IsShown c y × (c.memory ≡ v.id) →
        (q : Run Activation) → IfGives q (Within b c y) → IfGives q (Within b a w)
    next d x k c y m (stops o t) l = tt
    next d x k c y m (gives t z) l =
        let P : Activation → Type 0 = λ e. Agree e.env c.env Nowhere (λ n. n ≡ v.id) in (
          agree_onward a.env c.env t.env Nowhere (Defines b)
              (agree_wider a.env c.env Nowhere (λ n. n ≡ v.id) Nowhere (Defines b) (λ n u. u) (λ n u. (v, h v (inl refl), sym u)) (subst P k.0 m.0)) l.0,
          λ u. l.1 m.1,
        )

pub chain_in : (k : ℕ) (f : FuncRecord) (b : BlockRecord) (n : ℕ) (v : ValueRecord) → In v (chain k f b n) → In v b.values
unfolding chain
chain_in zero f b n v i = elim i [ ]
chain_in (suc k) f b n v i = go (next_at f b n) refl (λ m. chain_in k f b m v) i
  where
    go : (o : Option ValueRecord) → next_at f b n ≡ o → ((m : ℕ) → In v (chain k f b m) → In v b.values) → In v (onward o (chain k f b)) → In v b.values
    go None e rest j = elim j [ ]
    go (Some u) e rest (inl q) = (let P : ValueRecord → Type 0 = λ x. In x b.values in subst P q (find_in (λ v. has_effect v && is_at (state_of f v) n) b.values u e))
    go (Some u) e rest (inr j) = rest u.id j

-- the run of a block leaves the numbers of values that are defined there and not in it
pub performed_steady : (s : Setting) (f : FuncRecord) → Sound s f → (calls : Calls) (p : Program) (b : BlockRecord) → IsReached f b → (m : ℕ) (a : Activation) (w : World) →
    IfGives (performed calls p f b (chain_from f b m) a w) (λ d x. (n : ℕ) → IsDefinedAt f b n → ¬ Defines b n → numbers p f a.env n ≡ numbers p f d.env n)
performed_steady s f h calls p b r m a w =
    go (performed calls p f b (chain_from f b m) a w)
    (performed_agrees calls p f b (chain_from f b m) (λ v i. to_contains v b.values (chain_in (count_by has_effect b.values) f b m v i)) a w)
  where
    differs : Differs f b Nowhere (Defines b)
    differs = record { reached = r; block = reached_block f b r; phis = λ n k. elim k [ ]; states = λ n k. k }

    go : (q : Run Activation) → IfGives q (Within b a w) → IfGives q (λ d x. (n : ℕ) → IsDefinedAt f b n → ¬ Defines b n → numbers p f a.env n ≡ numbers p f d.env n)
    go (stops o d) k = tt
    go (gives d x) k = λ n at out. steady_before s f h b Nowhere (Defines b) differs p a.env d.env k.0 n at out
