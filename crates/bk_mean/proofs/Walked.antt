-- The state of memory along the walk that a run takes.
use Rattle.std.proofs.Common.{◌≡◌, ℕ, refl, ap, sym, ◌∙◌, subst, ◌⊎◌, inl, inr, List, [], ◌∷◌, ◌++◌}
use Rattle.std.specs.List.{Contains}
use Rattle.bk_func.specs.Records.{ValueRecord, BlockRecord, FuncRecord}
use Rattle.bk_func.specs.Numbers.{Program}
use Rattle.bk_func.specs.Effects.{chain_from}
use Rattle.bk_func.specs.Meaning.{World, Run, gives, stops, bind, Activation, Calls, first_state, checked_at, done_at, performed}
use Rattle.bk_func.specs.Form.Text.{HasBlock, IsEntry}
use Rattle.bk_func.specs.Form.Walks.{Walk, begin, onward, IsReached}
use Rattle.bk_func.specs.Form.States.{IsStateOf, IsChain, Carries, made, kept, HasChain}
use Rattle.bk_func.specs.Form.Signatures.{Setting}
use Rattle.bk_func.proofs.Faults.{In}
use Rattle.bk_places.proofs.Elements.{to_in, to_contains}
use Rattle.bk_mean.proofs.Dominance.{reached_block}
use Rattle.bk_mean.proofs.Typed.{effect_is_state}
use Rattle.bk_mean.proofs.Formed.{Sound}
use Rattle.bk_mean.proofs.Ranks.{needs_onward}
use Rattle.bk_mean.proofs.Along.{IfGives, then_gives, IsShown, checked_gives, Nowhere, done_agrees}
use Rattle.bk_mean.proofs.Steady.{Agree}
use Rattle.bk_mean.proofs.Chains.{needs_apart, first_is_state, linked_needs}
use Rattle.bk_mean.proofs.Follows.{Follows, follows_needs, Chained, done, next, chain_complete, IsMet}
use Rattle.bk_mean.proofs.Course.{Meets, begins_on, done_met, state_done}

-- a walk ends with one state

nothing_carried : (f : FuncRecord) (m : ℕ) → Carries f [] m → ⊥
nothing_carried f m c = elim c [ ]

walk_before : (f : FuncRecord) (b : BlockRecord) (w : List BlockRecord) (m : ℕ) → Walk f (b ∷ w) → Carries f w m → Walk f w
walk_before f b _ m (begin _ e) c = absurd (nothing_carried f m c)
walk_before f b _ m (onward a _ w walk h e) c = walk

top_of : (f : FuncRecord) (b : BlockRecord) (m : ℕ) (ms : List ℕ) → IsChain f b (m ∷ ms) → IsStateOf f b m
top_of f b m ms c = (c.states m).0 (to_contains m (m ∷ ms) (inl refl))

listed : (f : FuncRecord) (b : BlockRecord) (m n : ℕ) (ms : List ℕ) → IsChain f b (m ∷ ms) → IsStateOf f b n → (m ≡ n) ⊎ In n ms
listed f b m n ms c k = to_in n (m ∷ ms) ((c.states n).1 k)

one_top : (s : Setting) (f : FuncRecord) → Sound s f → (b : BlockRecord) → IsReached f b → (m n : ℕ) (ms ns : List ℕ) → IsChain f b (m ∷ ms) → IsChain f b (n ∷ ns) → m ≡ n
one_top s f h b r m n ms ns c d = go (top_of f b m ms c) (top_of f b n ns d) (listed f b m n ms c (top_of f b n ns d)) (listed f b n m ns d (top_of f b m ms c))
  where
    go : IsStateOf f b m → IsStateOf f b n → (m ≡ n) ⊎ In n ms → (n ≡ m) ⊎ In m ns → m ≡ n
    go k l (inl e) j = e
    go k l (inr i) (inl e) = sym e
    go (v, kv, ev) (u, ku, eu) (inr i) (inr j) =
        let P : ℕ → Type 0 = λ x. In x ms in
        let R : ℕ → Type 0 = λ x. In x ns in
        absurd (needs_apart s f h b v kv.0
        (needs_onward b v u v (linked_needs s f h b r m ms c.linked v u kv.0 ev ku.0 (subst P (sym eu) i)) (linked_needs s f h b r n ns d.linked u v ku.0 eu kv.0 (subst R (sym ev) j))))

pub carries_one : (s : Setting) (f : FuncRecord) → Sound s f → (w : List BlockRecord) (m n : ℕ) → Walk f w → Carries f w m → Carries f w n → m ≡ n
carries_one s f h _ m n walk (made b w _ ms c) (made _ _ _ ns d) = one_top s f h b (w, walk) m n ms ns c d
carries_one s f h _ m n walk (made b w _ ms c) (kept _ _ _ none d) = absurd (none m (top_of f b m ms c))
carries_one s f h _ m n walk (kept b w _ none c) (made _ _ _ ns d) = absurd (none n (top_of f b n ns d))
carries_one s f h _ m n walk (kept b w _ none c) (kept _ _ _ also d) = carries_one s f h w m n (walk_before f b w m walk c) c d

-- a run is at the entry of a block with a state: at the function's entry, or behind a walk that ends with the state
pub record Arrives (f : FuncRecord) (b : BlockRecord) (m : ℕ) : Type 0 where
  pub before : List BlockRecord
  pub walk : Walk f (b ∷ before)
  pub state : (IsEntry f b × (before ≡ [])) ⊎ Carries f before m

-- and at its end
pub record Departs (f : FuncRecord) (b : BlockRecord) (m : ℕ) : Type 0 where
  pub before : List BlockRecord
  pub walk : Walk f (b ∷ before)
  pub state : Carries f (b ∷ before) m

pub arrives_first : (f : FuncRecord) (b : BlockRecord) → IsEntry f b → (m : ℕ) → Arrives f b m
arrives_first f b e m = record { before = []; walk = begin b e; state = inl (e, refl) }

pub arrives_over : (f : FuncRecord) (b c : BlockRecord) (m : ℕ) → Departs f b m → HasBlock f c → Contains b.succs c.id → Arrives f c m
arrives_over f b c m d h e = record { before = b ∷ d.before; walk = onward b c d.before d.walk h e; state = inr d.state }

pub arrives_reached : (f : FuncRecord) (b : BlockRecord) (m : ℕ) → Arrives f b m → IsReached f b
arrives_reached f b m a = (a.before, a.walk)

-- the state is the one that all walks lead to the block with
pub arrives_meets : (s : Setting) (f : FuncRecord) → Sound s f → (b : BlockRecord) (m : ℕ) → Arrives f b m → Meets f b m
arrives_meets s f h b m a n first = go a.state (first a.before a.walk)
  where
    go : (IsEntry f b × (a.before ≡ [])) ⊎ Carries f a.before m → Carries f a.before n → n ≡ m
    go (inl q) c = absurd (nothing_carried f n (let P : List BlockRecord → Type 0 = λ w. Carries f w n in subst P q.1 c))
    go (inr d) c = carries_one s f h a.before n m (walk_before f b a.before m a.walk d) c d

-- the state after memory values
abbrev pub last_state : ℕ → List ValueRecord → ℕ
last_state m [] = m
last_state m (v ∷ vs) = last_state v.id vs

-- what is met and followed by nothing is the last
last_met : (f : FuncRecord) (b : BlockRecord) (m : ℕ) (vs : List ValueRecord) → Chained f b m vs → (n : ℕ) → IsMet m vs n → ((v : ValueRecord) → ¬ Follows f b n v) → last_state m vs ≡ n
last_met f b _ _ (done m out) n (inl e) none = sym e
last_met f b _ _ (done m out) n (inr i) none = elim i [ ]
last_met f b _ _ (next m v vs t c) n (inl e) none = absurd (none v (let P : ℕ → Type 0 = λ x. Follows f b x v in subst P (sym e) t))
last_met f b _ _ (next m v vs t c) n (inr (inl e)) none = last_met f b v.id vs c n (inl (sym e)) none
last_met f b _ _ (next m v vs t c) n (inr (inr i)) none = last_met f b v.id vs c n (inr i) none

top_unfollowed : (s : Setting) (f : FuncRecord) → Sound s f → (b : BlockRecord) → IsReached f b → (t : ℕ) (ms : List ℕ) → IsChain f b (t ∷ ms) → (v : ValueRecord) → ¬ Follows f b t v
top_unfollowed s f h b r t ms c v follows = go (top_of f b t ms c) (listed f b t v.id ms c (v, effect_is_state s f b v (h.types b v follows.0) follows.0 follows.1, refl))
  where
    go : IsStateOf f b t → (t ≡ v.id) ⊎ In v.id ms → ⊥
    go (u, k, e) (inl q) = needs_apart s f h b v follows.0 (follows_needs s f h b r t v v follows follows.0 (sym q))
    go (u, k, e) (inr i) = needs_apart s f h b v follows.0 (needs_onward b v u v (follows_needs s f h b r t v u follows k.0 e) (linked_needs s f h b r t ms c.linked u v k.0 e follows.0 i))

-- a block that a run goes through ends with the last of its memory values
pub departs : (s : Setting) (f : FuncRecord) → Sound s f → (b : BlockRecord) (m : ℕ) → Arrives f b m → Departs f b (last_state (first_state b m) (chain_from f b (first_state b m)))
departs s f h b m a = record { before = a.before; walk = a.walk; state = go ((h.states b (reached_block f b reached)).chain reached) }
  where
    reached : IsReached f b
    reached = (a.before, a.walk)

    complete : Chained f b (first_state b m) (chain_from f b (first_state b m))
    complete = chain_complete s f h b (a.before, a.walk) (first_state b m)

    top : (t : ℕ) (ms : List ℕ) → IsChain f b (t ∷ ms) → last_state (first_state b m) (chain_from f b (first_state b m)) ≡ t
    top t ms c =
        let k = top_of f b t ms c in
        let P : ℕ → Type 0 = λ x. IsMet (first_state b m) (chain_from f b (first_state b m)) x in
        last_met f b (first_state b m) (chain_from f b (first_state b m)) complete t
        (subst P k.2 (done_met (first_state b m) (chain_from f b (first_state b m)) k.0 (state_done s f h b (a.before, a.walk) m (arrives_meets s f h b m a) k.0 k.1)))
        (top_unfollowed s f h b (a.before, a.walk) t ms c)

    ends : (t : ℕ) (ms : List ℕ) → IsChain f b (t ∷ ms) → Carries f (b ∷ a.before) (last_state (first_state b m) (chain_from f b (first_state b m)))
    ends t ms c = (let P : ℕ → Type 0 = λ x. Carries f (b ∷ a.before) x in subst P (sym (top t ms c)) (made b a.before t ms c))

    no_values : ((n : ℕ) → ¬ IsStateOf f b n) → (vs : List ValueRecord) → Chained f b (first_state b m) vs → last_state (first_state b m) vs ≡ first_state b m
    no_values none _ (done _ out) = refl
    no_values none _ (next _ v vs t c) = absurd (none v.id (v, effect_is_state s f b v (h.types b v t.0) t.0 t.1, refl))

    same : ((n : ℕ) → ¬ IsStateOf f b n) → last_state (first_state b m) (chain_from f b (first_state b m)) ≡ m
    same none =
        no_values none (chain_from f b (first_state b m)) complete
        ∙ begins_on f b (reached_block f b (a.before, a.walk)) (λ v i p. none v.id (v, first_is_state s f h b v i p, refl)) m

    passed : ((n : ℕ) → ¬ IsStateOf f b n) → (IsEntry f b × (a.before ≡ [])) ⊎ Carries f a.before m → Carries f (b ∷ a.before) (last_state (first_state b m) (chain_from f b (first_state b m)))
    passed none (inl q) =
        let i = (h.states b (reached_block f b (a.before, a.walk))).first q.0 in
        absurd (none i.0.id (i.0, first_is_state s f h b i.0 (reached_block f b (a.before, a.walk), i.1) (inr i.2), refl))
    passed none (inr c) =
        let P : ℕ → Type 0 = λ x. Carries f a.before x in
        kept b a.before (last_state (first_state b m) (chain_from f b (first_state b m))) none (subst P (sym (same none)) c)

    go : HasChain f b → Carries f (b ∷ a.before) (last_state (first_state b m) (chain_from f b (first_state b m)))
    go (inl none) = passed none a.state
    go (inr ([], t, c, start)) = ends t [] c
    go (inr (t ∷ ms, n, c, start)) = ends t (ms ++ n ∷ []) c

-- and memory is in that state
pub performed_last : (calls : Calls) (p : Program) (f : FuncRecord) (b : BlockRecord) (vs : List ValueRecord) (a : Activation) (w : World) →
    IfGives (performed calls p f b vs a w) (λ d x. d.memory ≡ last_state a.memory vs)
performed_last calls p f b [] a w = go (checked_at p f b a w) (checked_gives p f b a w)
  where
    go : (q : Run Activation) → IfGives q (λ d x. (d ≡ a) × (x ≡ w)) → IfGives q (λ d x. d.memory ≡ a.memory)
    go (stops o d) k = tt
    go (gives d x) k = ap (λ (y : Activation). y.memory) k.0
performed_last calls p f b (v ∷ vs) a w =
    then_gives (checked_at p f b a w) (λ a w. bind (done_at calls p f v a w) (λ a w. performed calls p f b vs a w)) (λ d x. (d ≡ a) × (x ≡ w)) (λ d x. d.memory ≡ last_state v.id vs) (checked_gives p f b a w)
    (λ d x k. then_gives (done_at calls p f v d x) (λ a w. performed calls p f b vs a w) (λ c y. Agree d.env c.env Nowhere (λ n. n ≡ v.id) × IsShown c y × (c.memory ≡ v.id)) (λ d x. d.memory ≡ last_state v.id vs)
    (done_agrees calls p f v d x)
    (λ c y m. next_one c m.2 (performed calls p f b vs c y) (performed_last calls p f b vs c y)))
  where
    next_one : (c : Activation) → c.memory ≡ v.id → (q : Run Activation) → IfGives q (λ d x. d.memory ≡ last_state c.memory vs) → IfGives q (λ d x. d.memory ≡ last_state v.id vs)
    next_one c e (stops o d) k = tt
    next_one c e (gives d x) k = k ∙ ap (λ n. last_state n vs) e
