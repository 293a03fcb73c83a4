-- The state on all walks to a block.
use Rattle.std.proofs.Common.{◌≡◌, ◌∙◌, sym, refl, ap, subst, ℕ, ◌<◌, ◌⊎◌, Bool, true, false, cond, List, [], ◌∷◌, length, get_or, Option, None, Some, inl, inr, ⊎_elim, arith}
use Rattle.std.specs.List.{Contains, slice_get}
use Rattle.std.proofs.lemmas.Bool.{cases_eq}
use Rattle.std.proofs.lemmas.Option.{none-some, same_Some, slice_get_within}
use Rattle.bk_func.specs.Records.{BlockRecord, FuncRecord}
use Rattle.bk_func.specs.Form.Text.{HasBlock}
use Rattle.bk_func.specs.Form.Walks.{Walk, begin, onward, IsReached}
use Rattle.bk_func.specs.Form.States.{IsStateOf, IsChain, Carries, made, kept, IsFirstState, IsLastState}
use Rattle.bk_places.proofs.Elements.{none_in, contains_at, at_contains, at_some}
use Rattle.bk_places.proofs.Reaching.{path_start, path_within}
use Rattle.bk_places.specs.Search.{IsEdge, Path, here, onward as farther, PathFrom, IsMarked}
use Rattle.bk_form.specs.Carried.{AreOpen, AreIncoming, AreDiffering, AreFirstStates, IsPlaceOf, is_open, out_of, source_of, unmarked}
use Rattle.bk_form.specs.Chains.{AreChains, IsChainOf}
use Rattle.bk_form.specs.declared.chains.Chain.{Chain}
use Rattle.bk_form.specs.declared.chains.Chain.TheVariants.{Empty, Linked, Broken}
use Rattle.bk_form.specs.Places.{NodeRecord, nodes_of}
use Rattle.bk_form.specs.Walks.{block_edges, IsRow}
use Rattle.bk_form.proofs.Copied.{AreValues, one_node}
use Rattle.bk_form.proofs.Members.{first_in, later_in}
use Rattle.bk_form.proofs.Walked.{AreNamed, length_edges, step_edge, edge_step, walk_has, walk_all, reached_from, reached_to, same_place}

heads : {x y : ℕ} {xs ys : List ℕ} → x ∷ xs ≡ y ∷ ys → x ≡ y
heads e = cc

-- a walk that carries a state through a block
carried_by : (f : FuncRecord) (b : BlockRecord) (w : List BlockRecord) (s : ℕ) → Carries f (b ∷ w) s
    → ((ms : List ℕ) × IsChain f b (s ∷ ms)) ⊎ (((n : ℕ) → ¬ IsStateOf f b n) × Carries f w s)
carried_by f _ _ _ (made b w s ms chain) = inl (ms, chain)
carried_by f _ _ _ (kept b w s none rest) = inr (none, rest)

no_start : (f : FuncRecord) (w : List BlockRecord) (s : ℕ) → w ≡ [] → Carries f w s → ⊥
no_start f _ _ same (made b w s ms chain) = no_list same
  where
    no_list : b ∷ w ≡ [] → ⊥
    no_list e = cc
no_start f _ _ same (kept b w s none rest) = no_list same
  where
    no_list : b ∷ w ≡ [] → ⊥
    no_list e = cc

has_state : (f : FuncRecord) (b : BlockRecord) (s : ℕ) (ms : List ℕ) → IsChain f b (s ∷ ms) → ((n : ℕ) → ¬ IsStateOf f b n) → ⊥
has_state f b s ms chain none = none s ((chain.states s).0 (first_in s ms))

-- a walk carries one state at most
carries_one : (f : FuncRecord) (cs : List Chain) → AreChains f cs → (w : List BlockRecord) (s t : ℕ) → ((c : BlockRecord) → Contains w c → HasBlock f c) → Carries f w s → Carries f w t → s ≡ t
carries_one f cs single _ _ t all (made b w s ms chain) other = ⊎_elim
    (λ (ns, also). heads (single.one b (s ∷ ms) (t ∷ ns) (all b (first_in b w)) chain also))
    (λ (none, rest). absurd (has_state f b s ms chain none))
    (carried_by f b w t other)
carries_one f cs single _ _ t all (kept b w s none rest) other = ⊎_elim
    (λ (ns, also). absurd (has_state f b t ns also none))
    (λ (free, more). carries_one f cs single w s t (λ c m. all c (later_in b w c m)) rest more)
    (carried_by f b w t other)

-- the lists that the search for first states is made of
pub record AreFlows (f : FuncRecord) (cs : List Chain) (rs : List Bool) (os : List (List ℕ)) (ls : List (Option ℕ)) (ds : List ℕ) : Type 0 where
  pub named : AreNamed f
  pub values : AreValues f
  pub chains : AreChains f cs
  pub reached : IsRow (block_edges f) (length (block_edges f)) rs
  pub through : AreOpen (block_edges f) cs os
  pub incoming : AreIncoming (block_edges f) os cs rs ls
  pub differing : AreDiffering (block_edges f) cs rs ls ds

chain_at : (f : FuncRecord) (cs : List Chain) → AreChains f cs → (i : ℕ) (b : BlockRecord) → slice_get f.blocks i ≡ Some b → (c : Chain) × (slice_get cs i ≡ Some c) × IsChainOf f b c
chain_at f cs chains i b e =
    let (c, ec) = at_some cs i (omega (arith, chains.size, slice_get_within f.blocks i b e)) in
    (c, ec, chains.each i b c e ec)

-- an edge that leads on comes from a block without states
through_edge : (es : List (List ℕ)) (cs : List Chain) (os : List (List ℕ)) → AreOpen es cs os → (p q : ℕ) → IsEdge os p q → (slice_get cs p ≡ Some Empty) × IsEdge es p q
through_edge es cs os through p q edge = go (slice_get cs p) refl (subst (λ (us : List ℕ). Contains us q) (through.each p) edge)
  where
    go : (o : Option Chain) → slice_get cs p ≡ o → Contains (cond (is_open o) (get_or es p []) []) q → (slice_get cs p ≡ Some Empty) × IsEdge es p q
    go None e c = absurd (none_in q c)
    go (Some Empty) e c = (e, c)
    go (Some (Linked first last)) e c = absurd (none_in q c)
    go (Some Broken) e c = absurd (none_in q c)

edge_through : (es : List (List ℕ)) (cs : List Chain) (os : List (List ℕ)) → AreOpen es cs os → (p q : ℕ) → slice_get cs p ≡ Some Empty → IsEdge es p q → IsEdge os p q
edge_through es cs os through p q e edge =
    subst (λ (us : List ℕ). Contains us q) (sym (through.each p ∙ ap (λ (o : Option Chain). cond (is_open o) (get_or es p []) []) e)) edge

empty_at : (f : FuncRecord) (cs : List Chain) → AreChains f cs → (i : ℕ) (b : BlockRecord) → slice_get f.blocks i ≡ Some b → slice_get cs i ≡ Some Empty → (n : ℕ) → ¬ IsStateOf f b n
empty_at f cs chains i b e ec = chains.each i b Empty e ec

-- a path that leads on carries what walks carry to its start
path_carries : (f : FuncRecord) (cs : List Chain) (rs : List Bool) (os : List (List ℕ)) (ls : List (Option ℕ)) (ds : List ℕ) → AreFlows f cs rs os ls ds → (a y p : ℕ) → Path os a y p
    → (b c : BlockRecord) (w : List BlockRecord) (s : ℕ) → slice_get f.blocks y ≡ Some b → slice_get f.blocks p ≡ Some c → Walk f (b ∷ w) → Carries f w s
    → (v : List BlockRecord) × Walk f (c ∷ v) × Carries f v s
path_carries f cs rs os ls ds flows a y _ (here within) b c w s eb ec walk carries =
    (w, subst (λ (x : BlockRecord). Walk f (x ∷ w)) (same_Some b c (sym eb ∙ ec)) walk, carries)
path_carries f cs rs os ls ds flows a y _ (farther p q path apart edge within) b c w s eb ec walk carries =
    let (empty, step) = through_edge (block_edges f) cs os flows.through p q edge in
    let (d, ed) = at_some f.blocks p (omega (arith, flows.through.size, length_edges f, path_within os a y p path)) in
    let (v, front, rest) = path_carries f cs rs os ls ds flows a y p path b d w s eb ed walk carries in
    let (x, ex, succ) = edge_step f p q d ed step in
    let is : x ≡ c = same_Some x c (sym ex ∙ ec) in
    (d ∷ v, onward d c v front (contains_at f.blocks q c ec) (subst (λ (z : BlockRecord). Contains d.succs z.id) is succ), kept d v s (empty_at f cs flows.chains p d ed empty) rest)

-- the last state of a source
source_is : (f : FuncRecord) (cs : List Chain) (rs : List Bool) (os : List (List ℕ)) (ls : List (Option ℕ)) (ds : List ℕ) → AreFlows f cs rs os ls ds → (x l : ℕ)
    → source_of (slice_get cs x) (get_or rs x false) ≡ Some l
    → (b : BlockRecord) × (o : NodeRecord) × (ms : List ℕ) × (slice_get f.blocks x ≡ Some b) × IsReached f b × (slice_get (nodes_of f) l ≡ Some o) × IsChain f b (o.value.id ∷ ms)
source_is f cs rs os ls ds flows x l e = go (slice_get cs x) (get_or rs x false) refl refl e
  where
    go : (c : Option Chain) (t : Bool) → slice_get cs x ≡ c → get_or rs x false ≡ t → source_of c t ≡ Some l
        → (b : BlockRecord) × (o : NodeRecord) × (ms : List ℕ) × (slice_get f.blocks x ≡ Some b) × IsReached f b × (slice_get (nodes_of f) l ≡ Some o) × IsChain f b (o.value.id ∷ ms)
    go None t ec et e = absurd (none-some l e)
    go (Some Empty) t ec et e = absurd (none-some l e)
    go (Some Broken) t ec et e = absurd (none-some l e)
    go (Some (Linked first last)) false ec et e = absurd (none-some l e)
    go (Some (Linked first last)) true ec et e =
        let (b, eb) = at_some f.blocks x (omega (arith, flows.chains.size, slice_get_within cs x (Linked first last) ec)) in
        let (o, u, ms, ns, eo, eu, chain, same) = flows.chains.each x b (Linked first last) eb ec in
        let is : last ≡ l = same_Some last l e in
        (b, u, ms, eb, reached_from f flows.named x b eb ((flows.reached x).0 et), subst (λ (k : ℕ). slice_get (nodes_of f) k ≡ Some u) is eu, chain)

-- what is noted at a place is what some walk carries to it
noted_walk : (f : FuncRecord) (cs : List Chain) (rs : List Bool) (os : List (List ℕ)) (ls : List (Option ℕ)) (ds : List ℕ) → AreFlows f cs rs os ls ds → (y l : ℕ) (b : BlockRecord)
    → slice_get f.blocks y ≡ Some b → get_or ls y None ≡ Some l → (o : NodeRecord) × (w : List BlockRecord) × (slice_get (nodes_of f) l ≡ Some o) × Walk f (b ∷ w) × Carries f w o.value.id
noted_walk f cs rs os ls ds flows y l b eb e =
    let (x, source, (t, start, path)) = flows.incoming.from y l e in
    let (a, o, ms, ea, (w, walk), eo, chain) = source_is f cs rs os ls ds flows x l source in
    let (c, ec, succ) = edge_step f x t a ea start in
    let (v, more, carries) = path_carries f cs rs os ls ds flows (length (block_edges f)) t y path c b (a ∷ w) o.value.id ec eb (onward a c w walk (contains_at f.blocks t c ec) succ)
    (made a w o.value.id ms chain) in
    (o, v, eo, more, carries)

path_on : (es : List (List ℕ)) (p q : ℕ) (starts : List ℕ) → PathFrom es (length es) starts p → IsEdge es p q → q < length es → PathFrom es (length es) starts q
path_on es p q starts (t, c, path) edge within = (t, c, farther p q path (λ a. absurd (omega (arith, path_within es (length es) t p path))) edge within)

-- where walks carry something, something is noted
walk_noted : (f : FuncRecord) (cs : List Chain) (rs : List Bool) (os : List (List ℕ)) (ls : List (Option ℕ)) (ds : List ℕ) → AreFlows f cs rs os ls ds → (b : BlockRecord) (w : List BlockRecord) (s : ℕ)
    → Walk f (b ∷ w) → Carries f w s → (y : ℕ) → slice_get f.blocks y ≡ Some b → IsMarked ls y
walk_noted f cs rs os ls ds flows _ _ s (begin b entry) carries y eb = absurd (no_start f [] s refl carries)
walk_noted f cs rs os ls ds flows _ _ s (onward a b w walk has succ) carries y eb =
    let (x, ea) = at_contains f.blocks a (walk_has f a w walk) in
    let edge : IsEdge (block_edges f) x y = step_edge f flows.named x y a b ea eb succ in
    let within : y < length os = omega (arith, flows.through.size, length_edges f, slice_get_within f.blocks y b eb) in
    let (c, ec, is) = chain_at f cs flows.chains x a ea in
    ⊎_elim
    (λ (ms, chain).
    let (last, source) = from_chain x a ea c ec is s ms chain (w, walk) in
    flows.incoming.found x last y source (y, edge, here within))
    (λ (none, rest).
    let (l, marked) = walk_noted f cs rs os ls ds flows a w s walk rest x ea in
    let (z, source, path) = flows.incoming.from x l marked in
    let empty : slice_get cs x ≡ Some Empty = from_none x a ea c ec is none in
    let on : IsEdge os x y = edge_through (block_edges f) cs os flows.through x y empty edge in
    let same = flows.through.size in
    flows.incoming.found z l y source
    (subst (λ (n : ℕ). PathFrom os n (get_or (block_edges f) z []) y) same
    (path_on os x y (get_or (block_edges f) z []) (subst (λ (n : ℕ). PathFrom os n (get_or (block_edges f) z []) x) (sym same) path) on within)))
    (carried_by f a w s carries)
  where
    from_chain : (x : ℕ) (a : BlockRecord) → slice_get f.blocks x ≡ Some a → (c : Chain) → slice_get cs x ≡ Some c → IsChainOf f a c → (s : ℕ) (ms : List ℕ) → IsChain f a (s ∷ ms) → IsReached f a
        → (last : ℕ) × (source_of (slice_get cs x) (get_or rs x false) ≡ Some last)
    from_chain x a ea Empty ec is s ms chain reached = absurd (has_state f a s ms chain is)
    from_chain x a ea Broken ec is s ms chain reached = absurd (is.1 (s ∷ ms) chain)
    from_chain x a ea (Linked first last) ec is s ms chain reached =
        (last, ap (λ (o : Option Chain). source_of o (get_or rs x false)) ec ∙ ap (source_of (Some (Linked first last))) ((flows.reached x).1 (reached_to f flows.named x a ea reached)))

    from_none : (x : ℕ) (a : BlockRecord) → slice_get f.blocks x ≡ Some a → (c : Chain) → slice_get cs x ≡ Some c → IsChainOf f a c → ((n : ℕ) → ¬ IsStateOf f a n) → slice_get cs x ≡ Some Empty
    from_none x a ea Empty ec is none = ec
    from_none x a ea Broken ec is none = absurd (is.0 none)
    from_none x a ea (Linked first last) ec (o, u, ms, ns, eo, eu, chain, same) none = absurd (has_state f a u.value.id ms chain none)

-- the state on all walks is the one that is noted
first_noted : (f : FuncRecord) (cs : List Chain) (rs : List Bool) (os : List (List ℕ)) (ls : List (Option ℕ)) (ds : List ℕ) → AreFlows f cs rs os ls ds → (b : BlockRecord) (s y : ℕ)
    → slice_get f.blocks y ≡ Some b → IsReached f b → IsFirstState f b s → (l : ℕ) × (o : NodeRecord) × (get_or ls y None ≡ Some l) × (slice_get (nodes_of f) l ≡ Some o) × (o.value.id ≡ s)
first_noted f cs rs os ls ds flows b s y eb (w, walk) state =
    let (l, marked) = walk_noted f cs rs os ls ds flows b w s walk (state w walk) y eb in
    let (o, v, eo, more, carries) = noted_walk f cs rs os ls ds flows y l b eb marked in (
      l,
      o,
      marked,
      eo,
      carries_one f cs flows.chains v o.value.id s (λ c m. walk_all f b v more c (later_in b v c m)) carries (state v more),
    )

same_or_not : (o p : Option ℕ) → (o ≡ p) ⊎ ¬ (o ≡ p)
same_or_not None None = inl refl
same_or_not None (Some x) = inr (λ e. none-some x e)
same_or_not (Some x) None = inr (λ e. none-some x (sym e))
same_or_not (Some x) (Some y) = ⊎_elim (λ (same : x ≡ y). inl (ap Some same)) (λ apart. inr (λ e. apart (same_Some x y e))) (cases_eq x y)

-- where no edge differs, all walks carry what is noted
noted_first : (f : FuncRecord) (cs : List Chain) (rs : List Bool) (os : List (List ℕ)) (ls : List (Option ℕ)) (ds : List ℕ) → AreFlows f cs rs os ls ds → (b : BlockRecord) (w : List BlockRecord)
    → Walk f (b ∷ w) → (y l : ℕ) (o : NodeRecord) → slice_get f.blocks y ≡ Some b → get_or ls y None ≡ Some l → slice_get (nodes_of f) l ≡ Some o → ¬ PathFrom os (length os) ds y
    → Carries f w o.value.id
noted_first f cs rs os ls ds flows _ _ (begin b entry) y l o eb marked eo free =
    let first : y ≡ 0 = same_place f flows.named y 0 b eb entry in
    let within : y < length os = omega (arith, flows.through.size, length_edges f, slice_get_within f.blocks y b eb) in
    absurd (free (y, subst (λ (k : ℕ). Contains ds k) (sym first) flows.differing.start, here within))
noted_first f cs rs os ls ds flows _ _ (onward a b w walk has succ) y l o eb marked eo free =
    let (x, ea) = at_contains f.blocks a (walk_has f a w walk) in
    let edge : IsEdge (block_edges f) x y = step_edge f flows.named x y a b ea eb succ in
    let within : y < length os = omega (arith, flows.through.size, length_edges f, slice_get_within f.blocks y b eb) in
    let (c, ec, is) = chain_at f cs flows.chains x a ea in
    let row : get_or rs x false ≡ true = (flows.reached x).1 (reached_to f flows.named x a ea (w, walk)) in
    ⊎_elim
    (λ same. by_chain x c is (sym (ap (λ (k : Option Chain). out_of k (get_or ls x None)) ec) ∙ (sym same ∙ marked))
    (λ e m. noted_first f cs rs os ls ds flows a w walk x l o ea m eo (λ from.
    free (path_on os x y ds from (edge_through (block_edges f) cs os flows.through x y (ec ∙ ap Some e) edge) within))))
    (λ apart. absurd (free (y, flows.differing.each x y (row, edge, apart), here within)))
    (same_or_not (get_or ls y None) (out_of (slice_get cs x) (get_or ls x None)))
  where
    by_chain : (x : ℕ) (c : Chain) → IsChainOf f a c → out_of (Some c) (get_or ls x None) ≡ Some l → (c ≡ Empty → get_or ls x None ≡ Some l → Carries f w o.value.id) → Carries f (a ∷ w) o.value.id
    by_chain x Empty is out before = kept a w o.value.id is (before refl out)
    by_chain x Broken is out before = absurd (none-some l out)
    by_chain x (Linked first last) (p, u, ms, ns, ep, eu, chain, same) out before =
        let last_is : slice_get (nodes_of f) last ≡ Some o = ap (λ k. slice_get (nodes_of f) k) (same_Some last l out) ∙ eo in
        let is : u ≡ o = same_Some u o (sym eu ∙ last_is) in
        made a w o.value.id ms (subst (λ (m : NodeRecord). IsChain f a (m.value.id ∷ ms)) is chain)

-- what all walks carry along a path, they carry to its start
path_back : (f : FuncRecord) (cs : List Chain) (rs : List Bool) (os : List (List ℕ)) (ls : List (Option ℕ)) (ds : List ℕ) → AreFlows f cs rs os ls ds → (a d y s : ℕ) → Path os a d y
    → (b c : BlockRecord) → slice_get f.blocks y ≡ Some b → slice_get f.blocks d ≡ Some c → IsFirstState f b s → IsFirstState f c s
path_back f cs rs os ls ds flows a d _ s (here within) b c eb ec state = subst (λ (x : BlockRecord). IsFirstState f x s) (same_Some b c (sym eb ∙ ec)) state
path_back f cs rs os ls ds flows a d _ s (farther p q path apart edge within) b c eb ec state =
    let (empty, step) = through_edge (block_edges f) cs os flows.through p q edge in
    let (e, ee) = at_some f.blocks p (omega (arith, flows.through.size, length_edges f, path_within os a d p path)) in
    let (x, ex, succ) = edge_step f p q e ee step in
    let is : x ≡ b = same_Some x b (sym ex ∙ eb) in
    let before : IsFirstState f e s = λ w walk. ⊎_elim
    (λ (ms, chain). absurd (has_state f e s ms chain (empty_at f cs flows.chains p e ee empty)))
    (λ (none, rest). rest)
    (carried_by f e w s (state (e ∷ w) (onward e b w walk (contains_at f.blocks q b eb) (subst (λ (z : BlockRecord). Contains e.succs z.id) is succ)))) in
    path_back f cs rs os ls ds flows a d p s path e c ee ec before

-- along an edge walks carry what is noted behind it, where all walks carry one state there
edge_noted : (f : FuncRecord) (cs : List Chain) (rs : List Bool) (os : List (List ℕ)) (ls : List (Option ℕ)) (ds : List ℕ) → AreFlows f cs rs os ls ds → (x d s : ℕ) (a b : BlockRecord)
    → slice_get f.blocks x ≡ Some a → slice_get f.blocks d ≡ Some b → IsReached f a → Contains a.succs b.id → IsFirstState f b s → get_or ls d None ≡ out_of (slice_get cs x) (get_or ls x None)
edge_noted f cs rs os ls ds flows x d s a b ea eb (w, walk) succ state =
    let has = contains_at f.blocks d b eb in
    let (l, o, marked, eo, id) = first_noted f cs rs os ls ds flows b s d eb (a ∷ w, onward a b w walk has succ) state in
    let (c, ec, is) = chain_at f cs flows.chains x a ea in
    marked ∙ sym (ap (λ (k : Option Chain). out_of k (get_or ls x None)) ec ∙ by_chain l o eo id c is)
  where
    through : (v : List BlockRecord) → Walk f (a ∷ v) → Carries f (a ∷ v) s
    through v front = state (a ∷ v) (onward a b v front (contains_at f.blocks d b eb) succ)

    by_chain : (l : ℕ) (o : NodeRecord) → slice_get (nodes_of f) l ≡ Some o → o.value.id ≡ s → (c : Chain) → IsChainOf f a c → out_of (Some c) (get_or ls x None) ≡ Some l
    by_chain l o eo id (Linked first last) (p, u, ms, ns, ep, eu, chain, same) = ⊎_elim
        (λ (ks, also).
        let number : u.value.id ≡ s = heads (flows.chains.one a (u.value.id ∷ ms) (s ∷ ks) (walk_has f a w walk) chain also) in
        ap Some (one_node f flows.values last l u o eu eo (number ∙ sym id)).0)
        (λ (none, rest). absurd (has_state f a u.value.id ms chain none))
        (carried_by f a w s (through w walk))
    by_chain l o eo id Empty is =
        let before : IsFirstState f a s = λ v front. ⊎_elim (λ (ms, chain). absurd (has_state f a s ms chain is)) (λ (none, rest). rest) (carried_by f a v s (through v front)) in
        let (k, u, marked, eu, number) = first_noted f cs rs os ls ds flows a s x ea (w, walk) before in
        marked ∙ ap Some (one_node f flows.values k l u o eu eo (number ∙ sym id)).0
    by_chain l o eo id Broken is = ⊎_elim (λ (ms, chain). absurd (is.1 (s ∷ ms) chain)) (λ (none, rest). absurd (is.0 none)) (carried_by f a w s (through w walk))

-- where an edge differs, walks carry different states or none
torn_first : (f : FuncRecord) (cs : List Chain) (rs : List Bool) (os : List (List ℕ)) (ls : List (Option ℕ)) (ds : List ℕ) → AreFlows f cs rs os ls ds → (b : BlockRecord) (y s : ℕ)
    → slice_get f.blocks y ≡ Some b → PathFrom os (length os) ds y → ¬ IsFirstState f b s
torn_first f cs rs os ls ds flows b y s eb (d, start, path) state =
    let (e, ee) = at_some f.blocks d (omega (arith, flows.through.size, length_edges f, path_start os (length os) d y path)) in
    let before : IsFirstState f e s = path_back f cs rs os ls ds flows (length os) d y s path b e eb ee state in
    ⊎_elim
    (λ (first : d ≡ 0). no_start f [] s refl (before [] (begin e (subst (λ (k : ℕ). slice_get f.blocks k ≡ Some e) first ee))))
    (λ (x, (row, edge, apart)).
    let path' = (flows.reached x).0 row in
    let (a, ea) = at_some f.blocks x (omega (arith, length_edges f, path_within (block_edges f) (length (block_edges f)) 0 x path')) in
    let (c, ec, succ) = edge_step f x d a ea edge in
    let is : c ≡ e = same_Some c e (sym ec ∙ ee) in
    apart (edge_noted f cs rs os ls ds flows x d s a e ea ee (reached_from f flows.named x a ea path') (subst (λ (z : BlockRecord). Contains a.succs z.id) is succ) before))
    (flows.differing.only d start)

pub first_states_are : (f : FuncRecord) (cs : List Chain) (rs : List Bool) (os : List (List ℕ)) (ls : List (Option ℕ)) (ds : List ℕ) → AreFlows f cs rs os ls ds → (ms ss : List (Option ℕ))
    → ((p : ℕ) → IsMarked ms p → PathFrom os (length os) ds p) → ((p : ℕ) → PathFrom os (length os) ds p → IsMarked ms p)
    → ((p : ℕ) → get_or ss p None ≡ unmarked (get_or ms p None) (get_or ls p None)) → AreFirstStates f ss
first_states_are f cs rs os ls ds flows ms ss from found states = record {
  each = λ i b eb reached. subst (λ (o : Option ℕ). IsPlaceOf f (IsFirstState f b) o) (sym (states i)) (by_mark i b eb reached (get_or ms i None) refl);
}
  where
    noted : (i : ℕ) (b : BlockRecord) → slice_get f.blocks i ≡ Some b → IsReached f b → get_or ms i None ≡ None → (o : Option ℕ) → get_or ls i None ≡ o → IsPlaceOf f (IsFirstState f b) o
    noted i b eb reached free None e = λ s state.
        let (l, o, marked, eo, id) = first_noted f cs rs os ls ds flows b s i eb reached state in none-some l (sym e ∙ marked)
    noted i b eb reached free (Some l) e =
        let (o, w, eo, walk, carries) = noted_walk f cs rs os ls ds flows i l b eb e in (
          o,
          eo,
          λ s. (
            λ state.
                let (k, u, marked, eu, id) = first_noted f cs rs os ls ds flows b s i eb reached state in
                let same : k ≡ l = same_Some k l (sym marked ∙ e) in
                sym id ∙ ap (λ (m : NodeRecord). m.value.id) (same_Some u o (sym eu ∙ (ap (λ j. slice_get (nodes_of f) j) same ∙ eo))),
            λ is v front.
                subst (λ (n : ℕ). Carries f v n) (sym is)
                (noted_first f cs rs os ls ds flows b v front i l o eb e eo (λ path. let (m, mark) = found i path in none-some m (sym free ∙ mark))),
          ),
        )

    by_mark : (i : ℕ) (b : BlockRecord) → slice_get f.blocks i ≡ Some b → IsReached f b → (m : Option ℕ) → get_or ms i None ≡ m → IsPlaceOf f (IsFirstState f b) (unmarked m (get_or ls i None))
    by_mark i b eb reached None e = noted i b eb reached e (get_or ls i None) refl
    by_mark i b eb reached (Some m) e = λ s state. torn_first f cs rs os ls ds flows b i s eb (from i (m, e)) state

-- the state on all walks to the end of a block
pub last_state_is : (f : FuncRecord) (cs : List Chain) → AreChains f cs → (i : ℕ) (b : BlockRecord) → slice_get f.blocks i ≡ Some b → IsReached f b → (o : Option ℕ)
    → IsPlaceOf f (IsFirstState f b) o → IsPlaceOf f (IsLastState f b) (out_of (slice_get cs i) o)
last_state_is f cs chains i b eb (w, walk) o first =
    let (c, ec, is) = chain_at f cs chains i b eb in
    subst (λ (k : Option Chain). IsPlaceOf f (IsLastState f b) (out_of k o)) (sym ec) (by_chain c is o first)
  where
    by_chain : (c : Chain) → IsChainOf f b c → (o : Option ℕ) → IsPlaceOf f (IsFirstState f b) o → IsPlaceOf f (IsLastState f b) (out_of (Some c) o)
    by_chain (Linked first last) (p, u, ms, ns, ep, eu, chain, same) o state = (
      u,
      eu,
      λ s. (
        λ last'. ⊎_elim
            (λ (ks, also). sym (heads (chains.one b (u.value.id ∷ ms) (s ∷ ks) (contains_at f.blocks i b eb) chain also)))
            (λ (none, rest). absurd (has_state f b u.value.id ms chain none))
            (carried_by f b w s (last' w walk)),
        λ is v front. subst (λ (n : ℕ). Carries f (b ∷ v) n) (sym is) (made b v u.value.id ms chain),
      ),
    )
    by_chain Broken is o state = λ s last'. ⊎_elim (λ (ms, chain). is.1 (s ∷ ms) chain) (λ (none, rest). is.0 none) (carried_by f b w s (last' w walk))
    by_chain Empty is None state = λ s last'. state s (λ v front. through s last' v front)
      where
        through : (s : ℕ) → IsLastState f b s → (v : List BlockRecord) → Walk f (b ∷ v) → Carries f v s
        through s last' v front = ⊎_elim (λ (ms, chain). absurd (has_state f b s ms chain is)) (λ (none, rest). rest) (carried_by f b v s (last' v front))
    by_chain Empty is (Some x) (m, em, says) = (m, em, λ s. ((λ last'. (says s).0 (λ v front. through s last' v front)), (λ e v front. kept b v s is ((says s).1 e v front))))
      where
        through : (s : ℕ) → IsLastState f b s → (v : List BlockRecord) → Walk f (b ∷ v) → Carries f v s
        through s last' v front = ⊎_elim (λ (ms, chain). absurd (has_state f b s ms chain is)) (λ (none, rest). rest) (carried_by f b v s (last' v front))
