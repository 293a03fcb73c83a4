-- What blocks and values do with memory, by the places that were found.
use Rattle.std.proofs.Common.{◌≡◌, ◌∙◌, sym, refl, ap, subst, ℕ, ◌+◌, ◌<◌, ◌≤◌, ◌⊎◌, ◌↔◌, Bool, true, false, List, [], ◌∷◌, ◌++◌, length, get_or, Option, None, Some, inl, inr, ⊎_elim, arith}
use Rattle.std.specs.Bool.{IsTrue}
use Rattle.std.specs.Borrow.{Bor}
use Rattle.std.specs.List.{Contains, slice_get}
use Rattle.std.specs.Option.{MatchOption, option_and_then, is_some, option_copied, option_map, unwrap_or}
use Rattle.std.specs.Slice.{IsItemAt}
use Rattle.std.proofs.lemmas.Bool.{cases_lt, false≢true}
use Rattle.std.proofs.lemmas.List.{get_or_past}
use Rattle.std.proofs.lemmas.Option.{none-some, same_Some, slice_get_within}
use Rattle.bk_ops.specs.Families.{is_call_result}
use Rattle.bk_ops.specs.declared.family.Family.TheVariants.{InitMem, MakeResult}
use Rattle.bk_ops.specs.declared.types.Ty.TheVariants.{Mem}
use Rattle.bk_func.specs.Records.{ValueRecord, BlockRecord, FuncRecord}
use Rattle.bk_func.specs.Form.Text.{Defines, HasBlock, HasValue, IsFirstIn, IsPhi}
use Rattle.bk_func.specs.Form.Walks.{IsReached}
use Rattle.bk_func.specs.Form.Parts.{IsValueNumber}
use Rattle.bk_func.specs.Form.States.{EndsItsBlock, EndsWithState, HasChain, HasMemoryPhi, IsChain, IsFirstState, IsLastState, IsLinked, first, more, IsState, IsStateOf, Names, StandsFor, Starts}
use Rattle.bk_places.proofs.Elements.{lent, none_in, contains_at, at_contains, at_some}
use Rattle.bk_places.proofs.Filling.{Filled}
use Rattle.bk_places.specs.Named.{NamesBy}
use Rattle.bk_form.specs.Carried.{IsPlaceOf}
use Rattle.bk_form.specs.Chains.{AreChains, AreHomes, IsChainOf}
use Rattle.bk_form.specs.declared.chains.Chain.{Chain}
use Rattle.bk_form.specs.declared.chains.Chain.TheVariants.{Linked, Broken}
use Rattle.bk_form.specs.Memories.{AreControls, At, EndsWith, IsControlled, Meets, NamesLast, NamesRight, NamesWithin, TakesBefore, TakesBehind, TakesLast}
use Rattle.bk_form.specs.Naming.{NamesIf}
use Rattle.bk_form.specs.Numbers.{block_ids, value_ids, sole}
use Rattle.bk_form.specs.Places.{NodeRecord, node_at, nodes_of, node_named}
use Rattle.bk_form.specs.Roots.{AreRoots}
use Rattle.bk_form.proofs.Bearers.{sole_is}
use Rattle.bk_form.proofs.Copied.{AreValues, one_node, stands_at}
use Rattle.bk_form.proofs.Members.{first_in, first_or_later, last_in, same_end}
use Rattle.bk_form.proofs.Standing.{node_in, node_stands, node_of, block_alone, one_value, one_place}
use Rattle.bk_form.proofs.StateNames.{phi_names, stands_there}
use Rattle.bk_form.specs.Walks.{block_edges, IsRow}
use Rattle.bk_form.proofs.Walked.{AreNamed, block_there, home_of, reached_from, reached_to}

-- the node that is lent
pub seen : (f : FuncRecord) (xs : List NodeRecord) → xs ≡ nodes_of f → (i : ℕ) (r : Option (Bor NodeRecord)) → IsItemAt xs i r → (x : Bor NodeRecord) → r ≡ Some x → slice_get (nodes_of f) i ≡ Some x.now
seen f xs same i r item x e = ap (λ us. slice_get us i) (sym same) ∙ (sym (lent xs i r item) ∙ ap option_copied e)

pub unseen : (f : FuncRecord) (xs : List NodeRecord) → xs ≡ nodes_of f → (i : ℕ) (r : Option (Bor NodeRecord)) → IsItemAt xs i r → r ≡ None → (m : NodeRecord) → slice_get (nodes_of f) i ≡ Some m → ⊥
unseen f xs same i r item e m at = none-some m (sym (ap (λ us. slice_get us i) (sym same) ∙ (sym (lent xs i r item) ∙ ap option_copied e)) ∙ at)

-- what tests say
pub yes : {P : Type 0} → P → IsTrue true ↔ P
yes p = ((λ t. p), (λ q. refl))

pub no : {P : Type 0} → ¬ P → IsTrue false ↔ P
no n = ((λ t. absurd (false≢true t)), (λ q. absurd (n q)))

pub along : {A B C : Type 0} → (A ↔ B) → (B ↔ C) → (A ↔ C)
along (f, g) (h, k) = ((λ a. h (f a)), (λ c. g (k c)))

-- both places are those of one value
pub meets : (f : FuncRecord) → AreValues f → (P Q : ℕ → Type 0) (a b : Option ℕ) → IsPlaceOf f P a → IsPlaceOf f Q b → Meets a b ↔ ((s : ℕ) × P s × Q s)
meets f values P Q None b ha hb = ((λ (p, e, g). absurd (none-some p e)), (λ (s, x, y). absurd (ha s x)))
meets f values P Q (Some p) None ha hb = ((λ (q, e, g). absurd (none-some q g)), (λ (s, x, y). absurd (hb s y)))
meets f values P Q (Some p) (Some q) (m, em, pm) (o, eo, qo) = (
  λ (r, e, g).
      let same : p ≡ q = same_Some p r e ∙ sym (same_Some q r g) in
      let node : m ≡ o = same_Some m o (sym em ∙ (ap (λ k. slice_get (nodes_of f) k) same ∙ eo)) in
      (m.value.id, (pm m.value.id).1 refl, (qo m.value.id).1 (ap (λ (w : NodeRecord). w.value.id) node)),
  λ (s, x, y).
      let same : p ≡ q = (one_node f values p q m o em eo (sym ((pm s).0 x) ∙ (qo s).0 y)).0 in
      (p, refl, ap Some (sym same)),
)

-- the place of the one value of which the fact holds
pub place_is : (f : FuncRecord) → AreValues f → (P : ℕ → Type 0) (o : Option ℕ) (p : ℕ) (m : NodeRecord) → IsPlaceOf f P o → slice_get (nodes_of f) p ≡ Some m → (o ≡ Some p) ↔ P m.value.id
place_is f values P None p m h em = ((λ e. absurd (none-some p e)), (λ x. absurd (h m.value.id x)))
place_is f values P (Some q) p m (o, eo, says) em = (
  λ e. let same : o ≡ m = same_Some o m (sym eo ∙ (ap (λ k. slice_get (nodes_of f) k) (same_Some q p e) ∙ em)) in (says m.value.id).1 (ap (λ (w : NodeRecord). w.value.id) (sym same)),
  λ x. ap Some (one_node f values q p o m eo em (sym ((says m.value.id).0 x))).0,
)

-- what the states of a block are
pub chain_is : (f : FuncRecord) (cs : List Chain) → AreChains f cs → (i : ℕ) (c : Chain) → c ≡ unwrap_or (slice_get cs i) Broken → At f i (λ b. IsChainOf f b c)
chain_is f cs chains i c is b eb =
    let (x, ex) = at_some cs i (omega (arith, chains.size, slice_get_within f.blocks i b eb)) in
    subst (λ (k : Chain). IsChainOf f b k) (sym (is ∙ ap (λ o. unwrap_or o Broken) ex)) (chains.each i b x eb ex)

-- the first state of a chain
first_state : (f : FuncRecord) → AreValues f → (b : BlockRecord) (o : NodeRecord) (p : ℕ) (l ns : List ℕ) → slice_get (nodes_of f) p ≡ Some o → IsChain f b l → l ≡ ns ++ o.value.id ∷ [] → IsState f b o.value
first_state f values b o p l ns eo chain same =
    let (v, is, id) = (chain.states o.value.id).0 (subst (λ (us : List ℕ). Contains us o.value.id) (sym same) (last_in ns o.value.id)) in
    let (c, has) = stands_at f p o eo in
    let (block, value) = one_value f o.value.id b c v o.value (values.own c o.value has) is.0 has id refl in
    subst (λ (w : ValueRecord). IsState f b w) value is

pub chain_starts : (f : FuncRecord) → AreValues f → (cs : List Chain) → AreChains f cs → (b : BlockRecord) → HasBlock f b → (head last : ℕ) → IsChainOf f b (Linked head last) → (t : Bool)
    → ((m : NodeRecord) → slice_get (nodes_of f) head ≡ Some m → Contains b.values m.value → IsTrue t ↔ Starts f b m.value.id) → IsTrue t ↔ HasChain f b
chain_starts f values cs chains b has head last (o, u, ms, ns, eo, eu, chain, same) t says =
    let is = first_state f values b o head (u.value.id ∷ ms) ns eo chain same in
    let (to, from) = says o eo is.0.1 in (
      λ h. inr (ns, o.value.id, subst (λ (us : List ℕ). IsChain f b us) same chain, to h),
      λ h. ⊎_elim
          (λ none. absurd (none u.value.id ((chain.states u.value.id).0 (first_in u.value.id ms))))
          (λ (ks, m, also, starts).
          let end : m ≡ o.value.id = same_end ks ns m o.value.id (chains.one b (ks ++ m ∷ []) (u.value.id ∷ ms) has also chain ∙ same) in
          from (subst (λ (n : ℕ). Starts f b n) end starts))
          h,
    )

pub chain_broken : (f : FuncRecord) (b : BlockRecord) → IsChainOf f b Broken → ¬ HasChain f b
chain_broken f b (some, none) h = ⊎_elim (λ free. some free) (λ (ms, m, chain, starts). none (ms ++ m ∷ []) chain) h

pub not_broken : (f : FuncRecord) (b : BlockRecord) (c : Chain) → IsChainOf f b c → HasChain f b → ¬ (c ≡ Broken)
not_broken f b c is has e = chain_broken f b (subst (λ (k : Chain). IsChainOf f b k) e is) has

-- a phi of memory begins its chain
phi_ends : (f : FuncRecord) → AreValues f → (b : BlockRecord) (l : List ℕ) → IsLinked f b l → (v : ValueRecord) → HasValue f b v → ((s : ℕ) → ¬ Names f v s) → Contains l v.id
    → (ns : List ℕ) × (l ≡ ns ++ v.id ∷ [])
phi_ends f values b _ (first w has none) v hv names c = ⊎_elim
    (λ (same : w.id ≡ v.id). ([], ap (λ n. n ∷ []) same))
    (λ h. absurd (none_in v.id h))
    (first_or_later w.id [] v.id c)
phi_ends f values b _ (more w n ms has named rest) v hv names c = ⊎_elim
    (λ (same : w.id ≡ v.id).
    let (block, value) = one_value f v.id b b w v (values.own b v hv) has hv same refl in
    absurd (names n (subst (λ (x : ValueRecord). Names f x n) value named)))
    (λ later. let (ns, e) = phi_ends f values b (n ∷ ms) rest v hv names later in (w.id ∷ ns, ap (λ us. w.id ∷ us) e))
    (first_or_later w.id (n ∷ ms) v.id c)

pub phi_linked : (f : FuncRecord) → AreValues f → (b : BlockRecord) (head last : ℕ) → IsChainOf f b (Linked head last) → (t : Bool)
    → ((m : NodeRecord) → slice_get (nodes_of f) head ≡ Some m → IsTrue t ↔ IsPhi m.value) → IsTrue t ↔ HasMemoryPhi f b
phi_linked f values b head last (o, u, ms, ns, eo, eu, chain, same) t says =
    let is = first_state f values b o head (u.value.id ∷ ms) ns eo chain same in (
      λ h. (o.value, is, (says o eo).0 h),
      λ (v, isv, phi).
          let (ks, e) = phi_ends f values b (u.value.id ∷ ms) chain.linked v isv.0 (phi_names f v phi) ((chain.states v.id).1 (v, isv, refl)) in
          let end : v.id ≡ o.value.id = same_end ks ns v.id o.value.id (sym e ∙ same) in
          let (block, value) = one_value f o.value.id b b v o.value (values.own b o.value is.0) isv.0 is.0 end refl in
          (says o eo).1 (subst IsPhi value phi),
    )

pub no_phi : (f : FuncRecord) (b : BlockRecord) → ((n : ℕ) → ¬ IsStateOf f b n) → ¬ HasMemoryPhi f b
no_phi f b none (v, is, phi) = none v.id (v, is, refl)

-- the first state of a chain begins it by itself, or names the state on all walks
pub starts_alone : (f : FuncRecord) (b : BlockRecord) (v : ValueRecord) → HasValue f b v → IsPhi v ⊎ (v.op.family ≡ InitMem) → Starts f b v.id
starts_alone f b v has alone = (v, has, refl, ⊎_elim (λ phi. inl phi) (λ init. inr (inl init)) alone)

pub starts_named : (f : FuncRecord) → AreValues f → (b : BlockRecord) (v : ValueRecord) → HasValue f b v → ¬ (IsPhi v ⊎ (v.op.family ≡ InitMem)) → (t : Bool)
    → IsTrue t ↔ ((s : ℕ) × Names f v s × IsFirstState f b s) → IsTrue t ↔ Starts f b v.id
starts_named f values b v has other t (to, from) = (
  λ h. (v, has, refl, inr (inr (to h))),
  λ (w, hasw, id, alt).
      let (block, value) = one_value f v.id b b w v (values.own b v has) hasw has id refl in
      ⊎_elim
      (λ phi. absurd (other (inl (subst IsPhi value phi))))
      (λ rest. ⊎_elim
      (λ init. absurd (other (inr (subst (λ (x : ValueRecord). x.op.family ≡ InitMem) value init))))
      (λ (s, named, state). from (s, subst (λ (x : ValueRecord). Names f x s) value named, state))
      rest)
      alt,
)

-- the value at the place as the end of a block
pub ends_home : (f : FuncRecord) → AreValues f → (at place : ℕ) (b : BlockRecord) (o : NodeRecord) → slice_get f.blocks at ≡ Some b → slice_get (nodes_of f) place ≡ Some o → o.value.op.family ≡ MakeResult
    → o.home ≡ at → EndsWith f b o.value.id
ends_home f values at place b o eb eo makes home c v has id =
    let (j, d, hj, ed, hd) = node_stands 0 f.blocks place o eo in
    let (block, value) = one_value f o.value.id c d v o.value (values.own d o.value (contains_at f.blocks j d ed, hd)) has (contains_at f.blocks j d ed, hd) id refl in
    let there : slice_get f.blocks at ≡ Some d = ap (λ k. slice_get f.blocks k) (sym (sym (omega arith) ∙ home)) ∙ ed in
    let is : d ≡ b = same_Some d b (sym there ∙ eb) in (
      λ mk apart. absurd (apart (ap (λ (x : BlockRecord). x.id) (block ∙ is))),
      λ other mem. absurd (other (ap (λ (x : ValueRecord). x.op.family) value ∙ makes)),
    )

pub ends_results : (f : FuncRecord) → AreNamed f → AreValues f → (at place : ℕ) (b : BlockRecord) (o : NodeRecord) → slice_get f.blocks at ≡ Some b → slice_get (nodes_of f) place ≡ Some o
    → o.value.op.family ≡ MakeResult → ¬ (o.home ≡ at) → NamesLast f b o.value ↔ EndsWith f b o.value.id
ends_results f named values at place b o eb eo makes away =
    let (j, d, hj, ed, hd) = node_stands 0 f.blocks place o eo in
    let has : HasValue f d o.value = (contains_at f.blocks j d ed, hd) in (
      λ last c v hv id.
          let (block, value) = one_value f o.value.id c d v o.value (values.own d o.value has) hv has id refl in (
            λ mk apart. subst (λ (x : ValueRecord). NamesLast f b x) (sym value) last,
            λ other mem. absurd (other (ap (λ (x : ValueRecord). x.op.family) value ∙ makes)),
          ),
      λ ends. (ends d o.value has refl).0 makes (λ same.
          let place' : j ≡ at = one_place f b.id j at d b (named.each b (contains_at f.blocks at b eb)).own ed eb same refl in
          away (omega arith)),
    )

pub ends_other : (f : FuncRecord) → AreValues f → (place : ℕ) (b : BlockRecord) (o : NodeRecord) → slice_get (nodes_of f) place ≡ Some o → ¬ (o.value.op.family ≡ MakeResult) → ¬ (o.value.ty ≡ Mem)
    → EndsWith f b o.value.id
ends_other f values place b o eo other none c v hv id =
    let (d, has) = stands_at f place o eo in
    let (block, value) = one_value f o.value.id c d v o.value (values.own d o.value has) hv has id refl in (
      λ mk apart. absurd (other (ap (λ (x : ValueRecord). x.op.family) (sym value) ∙ mk)),
      λ no_result mem. absurd (none (ap (λ (x : ValueRecord). x.ty) (sym value) ∙ mem)),
    )

pub ends_memory : (f : FuncRecord) → AreValues f → (place : ℕ) (b : BlockRecord) (o : NodeRecord) → slice_get (nodes_of f) place ≡ Some o → ¬ (o.value.op.family ≡ MakeResult) → o.value.ty ≡ Mem
    → (last : Option ℕ) → IsPlaceOf f (IsLastState f b) last → (last ≡ Some place) ↔ EndsWith f b o.value.id
ends_memory f values place b o eo other mem last is =
    let (d, has) = stands_at f place o eo in
    let (to, from) = place_is f values (IsLastState f b) last place o is eo in (
      λ e c v hv id.
          let (block, value) = one_value f o.value.id c d v o.value (values.own d o.value has) hv has id refl in (
            λ mk apart. absurd (other (ap (λ (x : ValueRecord). x.op.family) (sym value) ∙ mk)),
            λ no_result memory. to e,
          ),
      λ ends. from ((ends d o.value has refl).1 other mem),
    )

-- the control of a block
pub control_none : (f : FuncRecord) (b : BlockRecord) → b.control ≡ None → EndsWithState f b
control_none f b none n m c v e stands has id = absurd (none-some n (sym none ∙ e))

pub control_rootless : (f : FuncRecord) (b : BlockRecord) (n : ℕ) → b.control ≡ Some n → ((s : ℕ) → ¬ StandsFor f n s) → EndsWithState f b
control_rootless f b n some none k m c v e stands has id = absurd (none m (subst (λ (x : ℕ). StandsFor f x m) (sym (same_Some n k (sym some ∙ e))) stands))

pub control_root : (f : FuncRecord) (b : BlockRecord) (n : ℕ) (o : NodeRecord) → b.control ≡ Some n → ((s : ℕ) → StandsFor f n s ↔ (s ≡ o.value.id)) → EndsWith f b o.value.id ↔ EndsWithState f b
control_root f b n o some says = (
  λ ends k m c v e stands has id.
      let is : m ≡ o.value.id = (says m).0 (subst (λ (x : ℕ). StandsFor f x m) (sym (same_Some n k (sym some ∙ e))) stands) in
      let (results, memory) = ends c v has (id ∙ is) in
      (results, λ other mem. subst (λ (x : ℕ). IsLastState f b x) (sym is) (memory other mem)),
  λ ends c v has id. ends n o.value.id c v some ((says o.value.id).1 refl) has id,
)

-- what a value stands for
pub root_is : (f : FuncRecord) (rs : List (Option ℕ)) → AreRoots f rs → (n p : ℕ) → IsValueNumber f n → sole (value_ids f) n ≡ Some p → (o : Option ℕ) → o ≡ get_or rs p None → IsPlaceOf f (StandsFor f n) o
root_is f rs roots n p number place None e = λ s stands.
    let (q, x, sx, ex, ix) = node_of f n number in
    let (r, u, eu, iu) = stands_there f n s stands in
    let is : q ≡ p = same_Some q p (sym sx ∙ place) in
    let at : StandsFor f x.value.id u.value.id = subst (λ (k : ℕ). StandsFor f k u.value.id) (sym ix) (subst (λ (k : ℕ). StandsFor f n k) (sym iu) stands) in
    none-some r (e ∙ (ap (λ k. get_or rs k None) (sym is) ∙ (roots.each q r x u ex eu).1 at))
root_is f rs roots n p number place (Some r) e =
    let (q, x, sx, ex, ix) = node_of f n number in
    let is : q ≡ p = same_Some q p (sym sx ∙ place) in
    let here : get_or rs q None ≡ Some r = ap (λ k. get_or rs k None) is ∙ sym e in
    let (o, eo) = at_some (nodes_of f) r (roots.within q r here) in (
      o,
      eo,
      λ s. (
        λ stands.
            let (t, u, eu, iu) = stands_there f n s stands in
            let at : StandsFor f x.value.id u.value.id = subst (λ (k : ℕ). StandsFor f k u.value.id) (sym ix) (subst (λ (k : ℕ). StandsFor f n k) (sym iu) stands) in
            let same : t ≡ r = same_Some t r (sym ((roots.each q t x u ex eu).1 at) ∙ here) in
            sym iu ∙ ap (λ (w : NodeRecord). w.value.id) (same_Some u o (sym eu ∙ (ap (λ k. slice_get (nodes_of f) k) same ∙ eo))),
        λ same. subst (λ (k : ℕ). StandsFor f n k) (sym same) (subst (λ (k : ℕ). StandsFor f k o.value.id) ix ((roots.each q r x o ex eo).0 here)),
      ),
    )

pub rootless : (f : FuncRecord) (n : ℕ) → IsValueNumber f n → sole (value_ids f) n ≡ None → ⊥
rootless f n number none = let (q, x, sx, ex, ix) = node_of f n number in none-some q (sym none ∙ sx)

-- the block of a predecessor
pub behind_is : (f : FuncRecord) → AreNamed f → (R : BlockRecord → Type 0) (pred : Option ℕ) (at : ℕ) → option_and_then (sole (block_ids f)) pred ≡ Some at → (t : Bool) → At f at (λ b. IsTrue t ↔ R b)
    → IsTrue t ↔ ((p : BlockRecord) → pred ≡ Some p.id → HasBlock f p → R p)
behind_is f named R None at e t h = absurd (none-some at e)
behind_is f named R (Some id) at e t h = (
  λ yes' p same has.
      let (j, ej) = at_contains f.blocks p has in
      let is : id ≡ p.id = same_Some id p.id same in
      let there : j ≡ at = same_Some j at (sym (block_alone f p.id j p (named.each p has).own ej refl) ∙ (ap (sole (block_ids f)) (sym is) ∙ e)) in
      (h p (subst (λ (k : ℕ). slice_get f.blocks k ≡ Some p) there ej)).0 yes',
  λ d.
      let (b, eb, is) = block_there f id at e in
      (h b eb).1 (d b (ap Some (sym is)) (contains_at f.blocks at b eb)),
)

pub behind_none : (f : FuncRecord) → AreNamed f → (pred : Option ℕ) → option_and_then (sole (block_ids f)) pred ≡ None → (p : BlockRecord) → pred ≡ Some p.id → HasBlock f p → ⊥
behind_none f named None e p same has = none-some p.id same
behind_none f named (Some id) e p same has =
    let (j, ej) = at_contains f.blocks p has in
    let is : id ≡ p.id = same_Some id p.id same in
    none-some j (sym e ∙ (ap (sole (block_ids f)) is ∙ block_alone f p.id j p (named.each p has).own ej refl))

-- the arguments of a phi below the index
pub record TakenUpTo (f : FuncRecord) (preds ns : List ℕ) (i : ℕ) : Type 0 where
  pub each : (k n : ℕ) (p : BlockRecord) → k < i → slice_get ns k ≡ Some n → slice_get preds k ≡ Some p.id → HasBlock f p → TakesLast f p n

pub taken_none : (f : FuncRecord) (preds ns : List ℕ) → TakenUpTo f preds ns 0
taken_none f preds ns = record { each = λ k n p l. absurd (omega arith) }

pub taken_more : (f : FuncRecord) (preds ns : List ℕ) (i n : ℕ) (pred : Option ℕ) → TakenUpTo f preds ns i → slice_get ns i ≡ Some n → pred ≡ slice_get preds i → TakesBehind f pred n
    → TakenUpTo f preds ns (i + 1)
taken_more f preds ns i n pred before e g here = record {
  each = λ k m p l em ep has. ⊎_elim
      (λ below. before.each k m p below em ep has)
      (λ above.
      let last : k ≡ i = omega arith in
      let same : n ≡ m = same_Some n m (sym e ∙ (ap (slice_get ns) (sym last) ∙ em)) in
      subst (λ (x : ℕ). TakesLast f p x) same (here p (g ∙ (ap (slice_get preds) (sym last) ∙ ep)) has))
      (cases_lt k i);
}

pub taken_all : (f : FuncRecord) (preds ns : List ℕ) (i : ℕ) → TakenUpTo f preds ns i → length ns ≤ i → TakesBefore f preds ns
taken_all f preds ns i h over k n p e g has = h.each k n p (omega (arith, slice_get_within ns k n e)) e g has

pub not_taken : (f : FuncRecord) (preds ns : List ℕ) (i n : ℕ) (pred : Option ℕ) → slice_get ns i ≡ Some n → pred ≡ slice_get preds i → ¬ TakesBehind f pred n → ¬ TakesBefore f preds ns
not_taken f preds ns i n pred e g broken all = broken (λ p same has. all i n p e (sym g ∙ same) has)

-- the block in which a value stands
pub defines_is : (f : FuncRecord) → AreNamed f → AreValues f → (n at : ℕ) (b : BlockRecord) → IsValueNumber f n → slice_get f.blocks at ≡ Some b
    → (option_map (λ (m : NodeRecord). m.home) (node_named f n) ≡ Some at) ↔ Defines b n
defines_is f named values n at b number eb = go (node_named f n) refl
  where
    go : (o : Option NodeRecord) → node_named f n ≡ o → (option_map (λ (m : NodeRecord). m.home) o ≡ Some at) ↔ Defines b n
    go None e =
        let (p, m, s, em, id) = node_of f n number in
        absurd (none-some m (sym e ∙ (ap (option_and_then (slice_get (nodes_of f))) s ∙ em)))
    go (Some m) e =
        let (c, ec, inside, id) = home_of f n m number e in (
          λ same.
              let is : c ≡ b = same_Some c b (sym ec ∙ (ap (λ k. slice_get f.blocks k) (same_Some m.home at same) ∙ eb)) in
              (m.value, subst (λ (x : BlockRecord). Contains x.values m.value) is inside, id),
          λ (v, hv, idv).
              let (block, value) = one_value f n c b m.value v number (contains_at f.blocks m.home c ec, inside) (contains_at f.blocks at b eb, hv) id idv in
              ap Some (one_place f b.id m.home at c b (named.each b (contains_at f.blocks at b eb)).own ec eb (ap (λ (x : BlockRecord). x.id) block) refl),
        )

-- results are the control of no other block
pub ends_only : (f : FuncRecord) → AreNamed f → AreValues f → (es : List (List ℕ)) → IsControlled f es → (at place : ℕ) (b : BlockRecord) (v : ValueRecord) → slice_get f.blocks at ≡ Some b
    → HasValue f b v → b.control ≡ Some v.id → sole (value_ids f) v.id ≡ Some place → (ps : List ℕ) → ps ≡ get_or es place []
    → ((p : ℕ) → Contains ps p → p ≡ at) ↔ EndsItsBlock f b v
ends_only f named values es (ks, controls, size, rev) at place b v eb has control number ps behind = (to, from)
  where
    key : (j : ℕ) (c : BlockRecord) → slice_get f.blocks j ≡ Some c → c.control ≡ Some v.id → get_or ks j None ≡ Some place
    key j c ec same = controls.each j c ec ∙ (ap (option_and_then (λ n. sole (value_ids f) n)) same ∙ number)

    within : place < length es
    within =
        let (q, m, s, em, id) = node_of f v.id (values.own b v has) in
        let same : q ≡ place = same_Some q place (sym s ∙ number) in
        omega (arith, size, slice_get_within (nodes_of f) q m em)

    to : ((p : ℕ) → Contains ps p → p ≡ at) → EndsItsBlock f b v
    to all = (
      control,
      λ c hc same.
          let (j, ec) = at_contains f.blocks c hc in
          let is : j ≡ at = all j (subst (λ (us : List ℕ). Contains us j) (sym behind) ((rev.edge place j).1 (within, key j c ec same))) in
          ap (λ (x : BlockRecord). x.id) (same_Some c b (sym ec ∙ (ap (λ k. slice_get f.blocks k) is ∙ eb))),
    )

    named_there : (o : Option ℕ) → option_and_then (λ n. sole (value_ids f) n) o ≡ Some place → o ≡ Some v.id
    named_there None e = absurd (none-some place e)
    named_there (Some n) e = ap Some (sym (sole_is (value_ids f) n place e).1.here ∙ (sole_is (value_ids f) v.id place number).1.here)

    from : EndsItsBlock f b v → (p : ℕ) → Contains ps p → p ≡ at
    from (own, only) p c =
        let at_key = ((rev.edge place p).0 (subst (λ (us : List ℕ). Contains us p) behind c)).1 in
        let (d, ed) = at_some f.blocks p (omega (arith, controls.size, key_within p at_key)) in
        let same : d.control ≡ Some v.id = named_there d.control (sym (controls.each p d ed) ∙ at_key) in
        one_place f b.id p at d b (named.each b (contains_at f.blocks at b eb)).own ed eb (only d (contains_at f.blocks p d ed) same) refl
      where
        key_within : (p : ℕ) → get_or ks p None ≡ Some place → p < length ks
        key_within p e = ⊎_elim (λ (low : p < length ks). low) (λ high. absurd (none-some place (sym (get_or_past ks p None high) ∙ e))) (cases_lt p (length ks))

-- the state that a value of a block names
pub names_nowhere : (f : FuncRecord) (b : BlockRecord) (v : ValueRecord) → ((s : ℕ) → ¬ Names f v s) → ¬ NamesWithin f b v
names_nowhere f b v none (s, named, is) = none s named

pub names_own : (f : FuncRecord) (hs : List (Option ℕ)) → AreHomes f hs → (at place : ℕ) (b : BlockRecord) (v : ValueRecord) → slice_get f.blocks at ≡ Some b → NamesIf f v (Some place)
    → get_or hs place None ≡ Some at → NamesWithin f b v
names_own f hs homes at place b v eb (m, em, says) home =
    let (c, w, ec, ew, is) = (homes.each place at).0 home in
    let node : node_at at w ≡ m = same_Some (node_at at w) m (sym ew ∙ em) in
    let state : IsState f b w = subst (λ (x : BlockRecord). IsState f x w) (same_Some c b (sym ec ∙ eb)) is in
    (m.value.id, (says m.value.id).1 refl, inl (w, state, ap (λ (x : NodeRecord). x.value.id) node))

not_own : (f : FuncRecord) → AreValues f → (hs : List (Option ℕ)) → AreHomes f hs → (at place : ℕ) (b : BlockRecord) (m : NodeRecord) → slice_get f.blocks at ≡ Some b → slice_get (nodes_of f) place ≡ Some m
    → ¬ (get_or hs place None ≡ Some at) → ¬ IsStateOf f b m.value.id
not_own f values hs homes at place b m eb em away (w, is, id) =
    let (p, ep) = node_in f at b w eb is.0.1 in
    let same : p ≡ place = (one_node f values p place (node_at at w) m ep em id).0 in
    away ((homes.each place at).1 (b, w, eb, subst (λ (k : ℕ). slice_get (nodes_of f) k ≡ Some (node_at at w)) same ep, is))

pub names_past : (f : FuncRecord) → AreValues f → (hs : List (Option ℕ)) → AreHomes f hs → (at place : ℕ) (b : BlockRecord) (v : ValueRecord) → slice_get f.blocks at ≡ Some b → NamesIf f v (Some place)
    → ¬ (get_or hs place None ≡ Some at) → HasMemoryPhi f b → ¬ NamesWithin f b v
names_past f values hs homes at place b v eb (m, em, says) away phi (s, named, is) = ⊎_elim
    (λ own. not_own f values hs homes at place b m eb em away (subst (λ (n : ℕ). IsStateOf f b n) ((says s).0 named) own))
    (λ (none, state). none phi)
    is

pub names_first : (f : FuncRecord) → AreValues f → (hs : List (Option ℕ)) → AreHomes f hs → (at place : ℕ) (b : BlockRecord) (v : ValueRecord) → slice_get f.blocks at ≡ Some b → NamesIf f v (Some place)
    → ¬ (get_or hs place None ≡ Some at) → ¬ HasMemoryPhi f b → (o : Option ℕ) → IsPlaceOf f (IsFirstState f b) o → (o ≡ Some place) ↔ NamesWithin f b v
names_first f values hs homes at place b v eb (m, em, says) away free o state =
    let (to, from) = place_is f values (IsFirstState f b) o place m state em in (
      λ e. (m.value.id, (says m.value.id).1 refl, inr (free, to e)),
      λ (s, named, is). from (⊎_elim
          (λ own. absurd (not_own f values hs homes at place b m eb em away (subst (λ (n : ℕ). IsStateOf f b n) ((says s).0 named) own)))
          (λ (none, first'). subst (λ (n : ℕ). IsFirstState f b n) ((says s).0 named) first')
          is),
    )

-- whether a value must name a state
pub right_apart : (f : FuncRecord) (b : BlockRecord) (v : ValueRecord)
    → IsPhi v ⊎ (v.op.family ≡ MakeResult) ⊎ (is_call_result v.op.family ≡ true) → NamesRight f b v
right_apart f b v apart k a c d reached at within = absurd (⊎_elim a (λ r. ⊎_elim c (λ s. false≢true (sym d ∙ s)) r) apart)

pub right_unreached : (f : FuncRecord) (b : BlockRecord) (v : ValueRecord) → ¬ IsReached f b → NamesRight f b v
right_unreached f b v none k a c d reached at within = absurd (none reached)

pub right_nothing : (f : FuncRecord) (b : BlockRecord) (v : ValueRecord) → ((n : ℕ) → ¬ NamesBy v n) → NamesRight f b v
right_nothing f b v none k a c d reached at within = let (n, g) = at_some v.args k within in absurd (none n (k, at, g))

pub right_named : (f : FuncRecord) (b : BlockRecord) (v : ValueRecord) (n : ℕ) → IsReached f b
    → ¬ (IsPhi v ⊎ (v.op.family ≡ MakeResult) ⊎ (is_call_result v.op.family ≡ true)) → NamesBy v n → NamesWithin f b v ↔ NamesRight f b v
right_named f b v n reached other (k, at, g) = (
  λ within j a c d r l m. within,
  λ right. right k (λ h. other (inl h)) (λ h. other (inr (inl h))) (not_so (is_call_result v.op.family) (λ h. other (inr (inr h)))) reached at (slice_get_within v.args k n g),
)
  where
    not_so : (t : Bool) → ¬ (t ≡ true) → t ≡ false
    not_so true no' = absurd (no' refl)
    not_so false no' = refl

-- the places of controls
pub controls_all : (f : FuncRecord) (ks : List (Option ℕ)) (i : ℕ) → i ≡ length f.blocks
    → Filled (λ (j : ℕ) (o : Option ℕ). (b : BlockRecord) → slice_get f.blocks j ≡ Some b → o ≡ option_and_then (λ n. sole (value_ids f) n) b.control) None ks i → AreControls f ks
controls_all f ks i all filled = record {
  size = filled.size ∙ all;
  each = λ j b eb. filled.each j (omega (arith, slice_get_within f.blocks j b eb)) b eb;
}

-- the blocks that are reached
pub reached_row : (f : FuncRecord) → AreNamed f → (es : List (List ℕ)) (rs : List Bool) → es ≡ block_edges f → IsRow es (length es) rs → (at : ℕ) (b : BlockRecord) → slice_get f.blocks at ≡ Some b
    → (get_or rs at false ≡ true) ↔ IsReached f b
reached_row f named es rs same row at b eb =
    let here : IsRow (block_edges f) (length (block_edges f)) rs = subst (λ (us : List (List ℕ)). IsRow us (length us) rs) same row in
    ((λ t. reached_from f named at b eb ((here at).0 t)), (λ r. (here at).1 (reached_to f named at b eb r)))

-- what an answer says of there being one
pub some_is : (P : ℕ → Type 0) (o : Option ℕ) (t : Bool) → t ≡ is_some o → MatchOption o ((n : ℕ) → ¬ P n) (λ n. (m : ℕ) → P m ↔ (m ≡ n)) → IsTrue t ↔ ((n : ℕ) × P n)
some_is P None t e h = ((λ yes'. absurd (false≢true (sym e ∙ yes'))), (λ (n, p). absurd (h n p)))
some_is P (Some x) t e h = ((λ yes'. (x, (h x).1 refl)), (λ p. e))

pub init_is : (b : BlockRecord) (o : Option ℕ) (t : Bool) → t ≡ is_some o
    → MatchOption o ((v : ValueRecord) → Contains b.values v → ¬ (v.op.family ≡ InitMem)) (λ n. (v : ValueRecord) × IsFirstIn (λ u. u.op.family ≡ InitMem) b.values v × (v.id ≡ n))
    → IsTrue t ↔ ((v : ValueRecord) × Contains b.values v × (v.op.family ≡ InitMem))
init_is b None t e h = ((λ yes'. absurd (false≢true (sym e ∙ yes'))), (λ (v, c, init). absurd (h v c init)))
init_is b (Some x) t e (v, (i, at, init, before), id) = ((λ yes'. (v, contains_at b.values i v at, init)), (λ p. e))
