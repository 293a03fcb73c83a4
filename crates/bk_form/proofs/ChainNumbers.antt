-- Runs of places as chains of numbers.
use Rattle.std.proofs.Common.{◌≡◌, ◌∙◌, sym, refl, ap, subst, ℕ, ◌<◌, ◌==◌, ◌↔◌, false, List, [], ◌∷◌, ◌++◌, map, length, get_or, Option, None, Some, ⊎_elim}
use Rattle.std.specs.List.{AllByRecursion, Contains, IsDistinct, slice_get}
use Rattle.std.proofs.lemmas.Bool.{cases_lt, ne_eqb}
use Rattle.std.proofs.lemmas.List.{get_or_past, map-append}
use Rattle.std.proofs.lemmas.Map.Keys.{IsDistinct-cons}
use Rattle.std.proofs.lemmas.Option.{none-some, same_Some}
use Rattle.bk_func.specs.Records.{ValueRecord, BlockRecord, FuncRecord}
use Rattle.bk_func.specs.Form.States.{IsState, IsStateOf, IsLinked, first, more, IsChain, Names}
use Rattle.bk_form.specs.declared.chains.Chain.{Chain}
use Rattle.bk_form.specs.declared.chains.Chain.TheVariants.{Empty, Linked, Broken}
use Rattle.bk_places.proofs.Elements.{none_in}
use Rattle.bk_places.proofs.Marking.{marked_or}
use Rattle.bk_places.specs.Search.{Reverses}
use Rattle.bk_form.specs.Chains.{AreBefores, AreHomes, AreNamed, IsChainAt, IsChainOf, IsClosedBy, IsRun}
use Rattle.bk_form.specs.Naming.{NamesIf}
use Rattle.bk_form.specs.Numbers.{value_ids}
use Rattle.bk_form.specs.Places.{NodeRecord, node_at, nodes_of}
use Rattle.bk_form.proofs.Copied.{AreValues, one_node}
use Rattle.bk_form.proofs.Members.{first_in, later_in, first_or_later, mapped_in, mapped_from}
use Rattle.bk_form.proofs.Running.{not_again, same_list}
use Rattle.bk_form.proofs.Standing.{node_in, number_at, one_value}

-- lists of places are about the function
pub record ArePlaces (f : FuncRecord) (hs ns bs : List (Option ℕ)) : Type 0 where
  pub values : AreValues f
  pub homes : AreHomes f hs
  pub names : AreNamed f ns
  pub befores : AreBefores hs ns bs

-- the number of the value at a place
abbrev pub id_of : FuncRecord → ℕ → ℕ
id_of f p = get_or (value_ids f) p 0

id_at : (f : FuncRecord) (p : ℕ) (m : NodeRecord) → slice_get (nodes_of f) p ≡ Some m → id_of f p ≡ m.value.id
id_at f p m e = (number_at f p m e).1

-- a state of the block has a place, and a place of its states a state
pub state_place : (f : FuncRecord) (hs ns bs : List (Option ℕ)) → ArePlaces f hs ns bs → (i : ℕ) (b : BlockRecord) → slice_get f.blocks i ≡ Some b → (v : ValueRecord) → IsState f b v
    → (p : ℕ) × (slice_get (nodes_of f) p ≡ Some (node_at i v)) × (get_or hs p None ≡ Some i)
state_place f hs ns bs here i b eb v is =
    let (p, ep) = node_in f i b v eb is.0.1 in
    (p, ep, (here.homes.each p i).1 (b, v, eb, ep, is))

pub place_state : (f : FuncRecord) (hs ns bs : List (Option ℕ)) → ArePlaces f hs ns bs → (i : ℕ) (b : BlockRecord) → slice_get f.blocks i ≡ Some b → (p : ℕ) → get_or hs p None ≡ Some i
    → (v : ValueRecord) × (slice_get (nodes_of f) p ≡ Some (node_at i v)) × IsState f b v
place_state f hs ns bs here i b eb p e =
    let (c, v, ec, ep, is) = (here.homes.each p i).0 e in
    (v, ep, subst (λ (x : BlockRecord). IsState f x v) (same_Some c b (sym ec ∙ eb)) is)

-- what comes before a state in its block is what it names there
before_names : (f : FuncRecord) (hs ns bs : List (Option ℕ)) → ArePlaces f hs ns bs → (p q : ℕ) (m o : NodeRecord) → slice_get (nodes_of f) p ≡ Some m → slice_get (nodes_of f) q ≡ Some o
    → get_or bs p None ≡ Some q → Names f m.value o.value.id
before_names f hs ns bs here p q m o ep eq e =
    let (name, rest) = (here.befores.each p q).0 e in
    let (x, ex, says) = subst (λ (r : Option ℕ). NamesIf f m.value r) name (here.names.each p m ep) in
    (says o.value.id).1 (ap (λ (w : NodeRecord). w.value.id) (same_Some o x (sym eq ∙ ex)))

names_before : (f : FuncRecord) (hs ns bs : List (Option ℕ)) → ArePlaces f hs ns bs → (i p q : ℕ) (m o : NodeRecord) → slice_get (nodes_of f) p ≡ Some m → slice_get (nodes_of f) q ≡ Some o
    → get_or hs p None ≡ Some i → get_or hs q None ≡ Some i → Names f m.value o.value.id → get_or bs p None ≡ Some q
names_before f hs ns bs here i p q m o ep eq hp hq named =
    (here.befores.each p q).1 (found (get_or ns p None) refl (here.names.each p m ep), (i, hp, hq))
  where
    found : (r : Option ℕ) → get_or ns p None ≡ r → NamesIf f m.value r → get_or ns p None ≡ Some q
    found None e none = absurd (none o.value.id named)
    found (Some x) e (n, en, says) =
        e ∙ ap Some (one_node f here.values x q n o en eq (sym ((says o.value.id).0 named))).0

-- a run as a chain
linked_from : (f : FuncRecord) (hs ns bs : List (Option ℕ)) → ArePlaces f hs ns bs → (i : ℕ) (b : BlockRecord) → slice_get f.blocks i ≡ Some b → (p : ℕ) (ms : List ℕ) → IsRun bs (p ∷ ms)
    → ((q : ℕ) → Contains (p ∷ ms) q → get_or hs q None ≡ Some i) → IsLinked f b (map (id_of f) (p ∷ ms))
linked_from f hs ns bs here i b eb p [] run all =
    let hp = all p (first_in p []) in
    let (v, ep, is) = place_state f hs ns bs here i b eb p hp in
    subst (λ (n : ℕ). IsLinked f b (n ∷ [])) (sym (id_at f p (node_at i v) ep)) (first v is.0 (λ s named (w, isw, idw).
    let (q, eq, hq) = state_place f hs ns bs here i b eb w isw in
    none-some q (sym run ∙ names_before f hs ns bs here i p q (node_at i v) (node_at i w) ep eq hp hq (subst (λ (n : ℕ). Names f v n) (sym idw) named))))
linked_from f hs ns bs here i b eb p (q ∷ ms) (at, run) all =
    let (v, ep, is) = place_state f hs ns bs here i b eb p (all p (first_in p (q ∷ ms))) in
    let (w, eq, isw) = place_state f hs ns bs here i b eb q (all q (later_in p (q ∷ ms) q (first_in q ms))) in
    let names : Names f v (id_of f q) =
    subst (λ (n : ℕ). Names f v n) (sym (id_at f q (node_at i w) eq)) (before_names f hs ns bs here p q (node_at i v) (node_at i w) ep eq at) in
    subst (λ (n : ℕ). IsLinked f b (n ∷ map (id_of f) (q ∷ ms))) (sym (id_at f p (node_at i v) ep))
    (more v (id_of f q) (map (id_of f) ms) is.0 names (linked_from f hs ns bs here i b eb q ms run (λ r c. all r (later_in p (q ∷ ms) r c))))

-- and a chain as a run
linked_to : (f : FuncRecord) (hs ns bs : List (Option ℕ)) → ArePlaces f hs ns bs → (i : ℕ) (b : BlockRecord) → slice_get f.blocks i ≡ Some b → (l : List ℕ) → IsLinked f b l
    → ((n : ℕ) → Contains l n → IsStateOf f b n) → (p : ℕ) × (ms : List ℕ) × IsRun bs (p ∷ ms) × (map (id_of f) (p ∷ ms) ≡ l) × ((q : ℕ) → Contains (p ∷ ms) q → get_or hs q None ≡ Some i)
linked_to f hs ns bs here i b eb _ (first v has none) all =
    let (w, isw, idw) = all v.id (first_in v.id []) in
    let (block, value) = one_value f v.id b b w v (here.values.own b v has) isw.0 has idw refl in
    let is : IsState f b v = subst (λ (x : ValueRecord). IsState f b x) value isw in
    let (p, ep, hp) = state_place f hs ns bs here i b eb v is in (
      p,
      [],
      ⊎_elim
          (λ (q, e).
          let (j, stands, other) = ((here.befores.each p q).0 e).1 in
          let same : j ≡ i = same_Some j i (sym stands ∙ hp) in
          let (x, eq, isx) = place_state f hs ns bs here i b eb q (other ∙ ap Some same) in
          absurd (none x.id (before_names f hs ns bs here p q (node_at i v) (node_at i x) ep eq e) (x, isx, refl)))
          (λ e. e)
          (marked_or bs p),
      ap (λ n. n ∷ []) (id_at f p (node_at i v) ep),
      λ q c. ⊎_elim (λ (same : p ≡ q). subst (λ (k : ℕ). get_or hs k None ≡ Some i) same hp) (λ h. absurd (none_in q h)) (first_or_later p [] q c),
    )
linked_to f hs ns bs here i b eb _ (more v n ms has named rest) all =
    let (w, isw, idw) = all v.id (first_in v.id (n ∷ ms)) in
    let (block, value) = one_value f v.id b b w v (here.values.own b v has) isw.0 has idw refl in
    let is : IsState f b v = subst (λ (x : ValueRecord). IsState f b x) value isw in
    let (p, ep, hp) = state_place f hs ns bs here i b eb v is in
    let (q, ks, run, same, homes) = linked_to f hs ns bs here i b eb (n ∷ ms) rest (λ m c. all m (later_in v.id (n ∷ ms) m c)) in
    let hq = homes q (first_in q ks) in
    let (x, eq, isx) = place_state f hs ns bs here i b eb q hq in
    let number : n ≡ x.id = sym (heads same) ∙ id_at f q (node_at i x) eq in (
      p,
      q ∷ ks,
      (names_before f hs ns bs here i p q (node_at i v) (node_at i x) ep eq hp hq (subst (λ (k : ℕ). Names f v k) number named), run),
      ap (λ k. k ∷ map (id_of f) (q ∷ ks)) (id_at f p (node_at i v) ep) ∙ ap (λ us. v.id ∷ us) same,
      λ r c. ⊎_elim (λ (first' : p ≡ r). subst (λ (k : ℕ). get_or hs k None ≡ Some i) first' hp) (λ later. homes r later) (first_or_later p (q ∷ ks) r c),
    )
  where
    heads : {y z : ℕ} {ys zs : List ℕ} → y ∷ ys ≡ z ∷ zs → y ≡ z
    heads e = cc

-- numbers of different places differ
apart : (f : FuncRecord) (n : ℕ) (us : List ℕ) → ((q : ℕ) → Contains us q → n ≡ id_of f q → ⊥) → AllByRecursion (λ m. (n == m) ≡ false) (map (id_of f) us)
apart f n [] differ = tt
apart f n (u ∷ us) differ = (ne_eqb n (id_of f u) (differ u (first_in u us)), apart f n us (λ q c. differ q (later_in u us q c)))

distinct_none : Unit {0} → IsDistinct {K = ℕ} (λ m n. m == n) []
unfolding IsDistinct
distinct_none u = tt

distinct_ids : (f : FuncRecord) (hs ns bs : List (Option ℕ)) → ArePlaces f hs ns bs → (i : ℕ) (b : BlockRecord) → slice_get f.blocks i ≡ Some b → (p : ℕ) (ms : List ℕ) → IsRun bs (p ∷ ms)
    → ((q : ℕ) → Contains (p ∷ ms) q → get_or hs q None ≡ Some i) → IsDistinct (λ m n. m == n) (map (id_of f) (p ∷ ms))
distinct_ids f hs ns bs here i b eb p [] run all = IsDistinct-cons (λ m n. m == n) (id_of f p) [] tt (distinct_none tt)
distinct_ids f hs ns bs here i b eb p (q ∷ ms) (at, run) all = IsDistinct-cons (λ m n. m == n) (id_of f p) (map (id_of f) (q ∷ ms))
    (apart f (id_of f p) (q ∷ ms) (λ r c e.
    let (v, ep, is) = place_state f hs ns bs here i b eb p (all p (first_in p (q ∷ ms))) in
    let (w, er, isw) = place_state f hs ns bs here i b eb r (all r (later_in p (q ∷ ms) r c)) in
    let same : v.id ≡ w.id = sym (id_at f p (node_at i v) ep) ∙ (e ∙ id_at f r (node_at i w) er) in
    let place : p ≡ r = (one_node f here.values p r (node_at i v) (node_at i w) ep er same).0 in
    not_again bs p (q ∷ ms) (at, run) (subst (λ (k : ℕ). Contains (q ∷ ms) k) (sym place) c)))
    (distinct_ids f hs ns bs here i b eb q ms run (λ r c. all r (later_in p (q ∷ ms) r c)))

-- the places of the block's states
abbrev pub IsPlaceIn : List (Option ℕ) → ℕ → List ℕ → Type 0
IsPlaceIn hs i ps = (p : ℕ) → Contains ps p ↔ (get_or hs p None ≡ Some i)

run_chain : (f : FuncRecord) (hs ns bs : List (Option ℕ)) → ArePlaces f hs ns bs → (i : ℕ) (b : BlockRecord) → slice_get f.blocks i ≡ Some b → (p : ℕ) (ms : List ℕ) → IsRun bs (p ∷ ms)
    → IsPlaceIn hs i (p ∷ ms) → IsChain f b (map (id_of f) (p ∷ ms))
run_chain f hs ns bs here i b eb p ms run whole = record {
  states = λ n. (
    λ c.
        let (q, cq, e) = mapped_from (id_of f) (p ∷ ms) n c in
        let (v, eq, is) = place_state f hs ns bs here i b eb q ((whole q).0 cq) in
        (v, is, sym (id_at f q (node_at i v) eq) ∙ e),
    λ (v, is, e).
        let (q, eq, hq) = state_place f hs ns bs here i b eb v is in
        subst (λ (k : ℕ). Contains (map (id_of f) (p ∷ ms)) k) (id_at f q (node_at i v) eq ∙ e) (mapped_in (id_of f) (p ∷ ms) q ((whole q).1 hq)),
  );
  distinct = distinct_ids f hs ns bs here i b eb p ms run (λ q c. (whole q).0 c);
  linked = linked_from f hs ns bs here i b eb p ms run (λ q c. (whole q).0 c);
}

pub chain_run : (f : FuncRecord) (hs ns bs : List (Option ℕ)) → ArePlaces f hs ns bs → (i : ℕ) (b : BlockRecord) → slice_get f.blocks i ≡ Some b → (l : List ℕ) → IsChain f b l
    → (p : ℕ) × (ms : List ℕ) × IsRun bs (p ∷ ms) × (map (id_of f) (p ∷ ms) ≡ l) × IsPlaceIn hs i (p ∷ ms)
chain_run f hs ns bs here i b eb l chain =
    let (p, ms, run, same, homes) = linked_to f hs ns bs here i b eb l chain.linked (λ n c. (chain.states n).0 c) in (
      p,
      ms,
      run,
      same,
      λ q. (
        homes q,
        λ hq.
            let (v, eq, is) = place_state f hs ns bs here i b eb q hq in
            let (r, cr, er) = mapped_from (id_of f) (p ∷ ms) v.id (subst (λ (us : List ℕ). Contains us v.id) (sym same) ((chain.states v.id).1 (v, is, refl))) in
            let (w, ew, isw) = place_state f hs ns bs here i b eb r (homes r cr) in
            subst (λ (k : ℕ). Contains (p ∷ ms) k) (one_node f here.values r q (node_at i w) (node_at i v) ew eq (sym (id_at f r (node_at i w) ew) ∙ er)).0 cr,
      ),
    )

-- a block has one chain at most
pub one_chain : (f : FuncRecord) (hs ns bs : List (Option ℕ)) → ArePlaces f hs ns bs → (i : ℕ) (b : BlockRecord) → slice_get f.blocks i ≡ Some b → (l k : List ℕ) → IsChain f b l → IsChain f b k → l ≡ k
one_chain f hs ns bs here i b eb l k c d =
    let (p, ms, run, same, whole) = chain_run f hs ns bs here i b eb l c in
    let (q, us, more', also, whole') = chain_run f hs ns bs here i b eb k d in
    sym same ∙ (ap (map (id_of f)) (same_list bs (λ r. get_or hs r None ≡ Some i) p q ms us run more' whole whole') ∙ also)

-- what the states of a block are, by numbers
pub chain_of : (f : FuncRecord) (hs ns bs : List (Option ℕ)) → ArePlaces f hs ns bs → (i : ℕ) (b : BlockRecord) → slice_get f.blocks i ≡ Some b → (ps : List ℕ) → IsPlaceIn hs i ps
    → (c : Chain) → IsChainAt bs ps c → IsChainOf f b c
chain_of f hs ns bs here i b eb ps all Empty none = λ n (v, is, e).
    let (p, ep, hp) = state_place f hs ns bs here i b eb v is in
    none_in p (subst (λ (us : List ℕ). Contains us p) none ((all p).1 hp))
chain_of f hs ns bs here i b eb ps all (Linked head last) (ms, ks, (run, whole), same) =
    let places : IsPlaceIn hs i (last ∷ ms) = λ p. ((λ c. (all p).0 ((whole p).0 c)), (λ e. (whole p).1 ((all p).1 e))) in
    let end : Contains (last ∷ ms) head = subst (λ (us : List ℕ). Contains us head) (sym same) (ends ks) in
    let (v, ev, isv) = place_state f hs ns bs here i b eb head ((places head).0 end) in
    let (w, ew, isw) = place_state f hs ns bs here i b eb last ((places last).0 (first_in last ms)) in
    let ids : id_of f last ∷ map (id_of f) ms ≡ map (id_of f) ks ++ id_of f head ∷ [] = ap (map (id_of f)) same ∙ map-append (id_of f) ks (head ∷ []) in
    let is_last = id_at f last (node_at i w) ew in
    let is_head = id_at f head (node_at i v) ev in (
      node_at i v,
      node_at i w,
      map (id_of f) ms,
      map (id_of f) ks,
      ev,
      ew,
      subst (λ (n : ℕ). IsChain f b (n ∷ map (id_of f) ms)) is_last (run_chain f hs ns bs here i b eb last ms run places),
      ap (λ n. n ∷ map (id_of f) ms) (sym is_last) ∙ (ids ∙ ap (λ n. map (id_of f) ks ++ n ∷ []) is_head),
    )
  where
    ends : (us : List ℕ) → Contains (us ++ head ∷ []) head
    ends [] = first_in head []
    ends (u ∷ us) = later_in u (us ++ head ∷ []) head (ends us)
chain_of f hs ns bs here i b eb ps all Broken (some, none) = (
  λ free. some (nothing ps (λ p c.
      let (v, ep, is) = place_state f hs ns bs here i b eb p ((all p).0 c) in
      free v.id (v, is, refl))),
  λ l chain.
      let (p, ms, run, same, whole) = chain_run f hs ns bs here i b eb l chain in
      none p ms (run, λ q. ((λ c. (all q).1 ((whole q).0 c)), (λ c. (whole q).1 ((all q).0 c)))),
)
  where
    nothing : (us : List ℕ) → ((p : ℕ) → Contains us p → ⊥) → us ≡ []
    nothing [] h = refl
    nothing (u ∷ us) h = absurd (h u (first_in u us))

-- the states of a block, listed by their places
pub members_are : (hs : List (Option ℕ)) (es : List (List ℕ)) → Reverses hs es → (i : ℕ) → i < length es → (ps : List ℕ) → ps ≡ get_or es i [] → IsPlaceIn hs i ps
members_are hs es rev i within ps same p = (
  λ c. ((rev.edge i p).0 (subst (λ (us : List ℕ). Contains us p) same c)).1,
  λ e. subst (λ (us : List ℕ). Contains us p) (sym same) ((rev.edge i p).1 (within, e)),
)

pub members_close : (hs ns bs : List (Option ℕ)) → AreBefores hs ns bs → (i : ℕ) (ps : List ℕ) → IsPlaceIn hs i ps → IsClosedBy bs ps
members_close hs ns bs befores i ps all = record {
  down = λ q p c e.
      let (name, (j, hq, hp)) = (befores.each q p).0 e in
      let same : j ≡ i = same_Some j i (sym hq ∙ (all q).0 c) in
      (all p).1 (hp ∙ ap Some same);
  up = λ q p c e.
      let (name, (j, hq, hp)) = (befores.each q p).0 e in
      let same : j ≡ i = same_Some j i (sym hp ∙ (all p).0 c) in
      (all q).1 (hq ∙ ap Some same);
}

pub members_within : (hs : List (Option ℕ)) (i : ℕ) (ps : List ℕ) → IsPlaceIn hs i ps → (p : ℕ) → Contains ps p → p < length hs
members_within hs i ps all p c =
    ⊎_elim (λ (b : p < length hs). b) (λ a. absurd (none-some i (sym (get_or_past hs p None a) ∙ (all p).0 c))) (cases_lt p (length hs))
