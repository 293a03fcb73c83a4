-- What steps keep of the facts.
use Rattle.std.proofs.Common.{◌≡◌, ◌≢◌, ◌∙◌, sym, refl, ap, subst, ℕ, zero, suc, ◌<◌, ◌≤◌, ◌==◌, Bool, true, false, not, List, [], ◌∷◌, length, Option, Some, None, ◌⊎◌, inl, inr, arith, eq-eqb, ℤ}
use Rattle.std.specs.Prelude.{slice_get, slice_index_or, slice_set, if◌then◌else◌, ◌&&◌, option_map}
use Rattle.std.proofs.lemmas.Bool.{cases_eq, cases_lt, eqb-true}
use Rattle.std.proofs.lemmas.List.{get_or-set_same, get_or-set_other}
use Rattle.std.proofs.lemmas.Option.{slice_get_past}
use Rattle.bk_func.specs.declared.parts.Kind.{Kind}
use Rattle.bk_func.specs.declared.parts.Kind.TheVariants as kind
use Rattle.bk_func.specs.Records.{BlockRecord}
use Rattle.bk_graph.specs.declared.graph.Edge.{Edge}
use Rattle.bk_graph.specs.Clean.{place_taken}
use Rattle.bk_graph.specs.Cleaned.{truth_at, goes_if, goes_by, goes_at}
use Rattle.bk_graph.specs.Facts.{Facts, goes_to, edge_stays}
use Rattle.bk_graph.specs.Kinds.{truth_of}
use Rattle.bk_graph.specs.Known.{stays_there, Stands, itself, passed, phi, goes, cut, unreached, Known, first, decided, other, left, none, apart, Way, begin, onward}
use Rattle.bk_graph.specs.Nodes.{NodeRecord}
use Rattle.bk_graph.specs.Roots.{root_of}
use Rattle.bk_graph.specs.Settling.{facts_in, IsSettling, IsFound, IsShut}
use Rattle.bk_graph.specs.Tables.{Tables, edges_to, control_of}

pub is_false : (t : Bool) → (t ≡ true → ⊥) → t ≡ false
is_false true h = absurd (h refl)
is_false false h = refl

-- what stands for a value

pub standing_on : (t : Tables) (stays : Edge → Bool) (n m o : ℕ) → Stands t stays n m → Stands t stays m o → Stands t stays n o
standing_on t stays _ _ o (itself n) s = s
standing_on t stays _ _ o (passed p q m n i c e l d) s = passed p q o n i c e l (standing_on t stays q m o d s)
standing_on t stays _ _ o (phi p k q m n own i c e l d all) s =
    phi p k q o n own i c e l (standing_on t stays q m o d s) (λ j x a. go (own j) x (all j x a) (standing_on t stays x (if own j then p else m) o (all j x a)))
  where
    go : (z : Bool) (x : ℕ) → Stands t stays x (if z then p else m) → (Stands t stays (if z then p else m) o → Stands t stays x o) → Stands t stays x (if z then p else o)
    go true x d next = d
    go false x d next = next s

pub there_more : (stays more : Edge → Bool) → ((e : Edge) → stays e ≡ true → more e ≡ true) → (o : Option Edge) → stays_there stays o ≡ true → stays_there more o ≡ true
there_more stays more h None e = e
there_more stays more h (Some x) e = h x e

-- where fewer edges stay, values stand for the same
pub fewer_stand : (t : Tables) (more stays : Edge → Bool) → ((e : Edge) → stays e ≡ true → more e ≡ true) → (n m : ℕ) → Stands t more n m → Stands t stays n m
fewer_stand t more stays h _ _ (itself n) = itself n
fewer_stand t more stays h _ _ (passed p q m n i c e l d) = passed p q m n i c e l (fewer_stand t more stays h q m d)
fewer_stand t more stays h _ _ (phi p k q m n own i c e l d all) =
    phi p k q m n own i c e l (fewer_stand t more stays h q m d)
    (λ j x a. fewer_stand t more stays h x (if own j then p else m) (all j x (record { arg = a.arg; edge = there_more stays more h (slice_get (edges_to t n.block) j) a.edge })))

-- edges that do not stay

both_true : (s t : Bool) → (s && t) ≡ true → (s ≡ true) × (t ≡ true)
both_true true t e = (refl, e)
both_true false t e = let x : false ≡ true = e in absurd cc

pub gone_known : (t : Tables) (F : Facts) → IsSettling t F → (e : Edge) → edge_stays F e ≡ false → Known t (cut e)
gone_known t F h e s = by (F.reached e.from) refl (F.taken e.from) refl s
  where
    by : (r : Bool) → F.reached e.from ≡ r → (o : Option ℕ) → F.taken e.from ≡ o → (r && goes_to o e.index) ≡ false → Known t (cut e)
    by false r o d z = left e (h.unreached e.from r)
    by true r None d z = let x : true ≡ false = z in absurd cc
    by true r (Some j) d z = other e j (λ q. let x = eq-eqb j e.index (sym q) in let y : (j == e.index) ≡ false = z in absurd cc) (h.taken e.from j d)

-- what the rules tell of a branch
module _ (t : Tables) (F : Facts) (h : IsSettling t F) (b k : ℕ) where
  by_int : (c : BlockRecord) (p : ℕ) (n : NodeRecord) → slice_get t.blocks b ≡ Some c → c.kind ≡ kind.If → control_of t b ≡ Some p → slice_get t.nodes (F.root p) ≡ Some n
      → (o : Option ℤ) → truth_of n.value.op.family n.value.int ≡ o → option_map place_taken o ≡ Some k → Known t (goes b k)
  by_int c p n i d control at None is e = let x : ◌≡◌ {A = Option ℕ} None (Some k) = e in absurd cc
  by_int c p n i d control at (Some int) is e =
      let z : place_taken int ≡ k = (let x : Some (place_taken int) ≡ Some k = e in cc) in
      let P : ℕ → Type 0 = λ m. Known t (goes b m) in
      subst P z (decided b p (F.root p) c n int (edge_stays F) i d control (h.root p) at is (gone_known t F h))

  by_truth : (c : BlockRecord) (p : ℕ) → slice_get t.blocks b ≡ Some c → c.kind ≡ kind.If → control_of t b ≡ Some p → (o : Option NodeRecord) → slice_get t.nodes (F.root p) ≡ o
      → option_map place_taken (truth_at o) ≡ Some k → Known t (goes b k)
  by_truth c p i d control None at e = let x : ◌≡◌ {A = Option ℕ} None (Some k) = e in absurd cc
  by_truth c p i d control (Some n) at e = by_int c p n i d control at (truth_of n.value.op.family n.value.int) refl e

  by_control : (c : BlockRecord) → slice_get t.blocks b ≡ Some c → c.kind ≡ kind.If → (o : Option ℕ) → control_of t b ≡ o → goes_if t F.root o ≡ Some k → Known t (goes b k)
  by_control c i d None control e = let x : ◌≡◌ {A = Option ℕ} None (Some k) = e in absurd cc
  by_control c i d (Some p) control e = by_truth c p i d control (slice_get t.nodes (F.root p)) refl e

  by_kind : (c : BlockRecord) → slice_get t.blocks b ≡ Some c → (x : Kind) → c.kind ≡ x → goes_by t F.root (control_of t b) x ≡ Some k → Known t (goes b k)
  by_kind c i kind.First d e =
      let z : 0 ≡ k = (let x : Some 0 ≡ Some k = e in cc) in
      let P : ℕ → Type 0 = λ m. Known t (goes b m) in
      subst P z (first b c i d)
  by_kind c i kind.If d e = by_control c i d (control_of t b) refl e
  by_kind c i kind.Plain d e = let x : ◌≡◌ {A = Option ℕ} None (Some k) = e in absurd cc
  by_kind c i kind.Ret d e = let x : ◌≡◌ {A = Option ℕ} None (Some k) = e in absurd cc
  by_kind c i kind.Exit d e = let x : ◌≡◌ {A = Option ℕ} None (Some k) = e in absurd cc

  by_block : (o : Option BlockRecord) → slice_get t.blocks b ≡ o → goes_at t F.root b o ≡ Some k → Known t (goes b k)
  by_block None i e = let x : ◌≡◌ {A = Option ℕ} None (Some k) = e in absurd cc
  by_block (Some c) i e = by_kind c i c.kind refl e

  pub known_goes : goes_at t F.root b (slice_get t.blocks b) ≡ Some k → Known t (goes b k)
  known_goes e = by_block (slice_get t.blocks b) refl e

-- where fewer edges stay
module _ (t : Tables) (F : Facts) (h : IsSettling t F) (r : ℕ → Bool) (k : ℕ → Option ℕ) where
  abbrev pub After : Facts
  After = record { reached = r; taken = k; root = F.root }

  pub fewer : ((e : Edge) → edge_stays After e ≡ true → edge_stays F e ≡ true) → ((b : ℕ) → r b ≡ false → Known t (unreached b)) → ((b j : ℕ) → k b ≡ Some j → Known t (goes b j))
      → ((c : BlockRecord) → slice_get t.blocks 0 ≡ Some c → r 0 ≡ true)
      → ((b j : ℕ) (e : Edge) → slice_get (edges_to t b) j ≡ Some e → edge_stays After e ≡ true → r b ≡ true)
      → ((b j : ℕ) → k b ≡ Some j → goes_at t F.root b (slice_get t.blocks b) ≡ Some j) → IsSettling t After
  fewer less lost found start on go = record {
    unreached = lost;
    taken = found;
    root = λ p. fewer_stand t (edge_stays F) (edge_stays After) less p (F.root p) (h.root p);
    entry = start;
    onward = on;
    goes = go;
    passed = h.passed;
    flat = h.flat;
    within = h.within;
    yielded = λ p j x n i c m a.
        h.yielded p j x n i c m (record { arg = a.arg; edge = there_more (edge_stays After) (edge_stays F) less (slice_get (edges_to t n.block) j) a.edge });
  }

-- a block is decided

stays_open : (r : Bool) (o u : Option ℕ) (i : ℕ) → u ≡ None → (r && goes_to o i) ≡ true → (r && goes_to u i) ≡ true
stays_open r o u i e s = (let x = both_true r (goes_to o i) s in let P : Option ℕ → Type 0 = λ z. (r && goes_to z i) ≡ true in subst P (sym e) (let Q : Bool → Type 0 = λ z. (z && true) ≡ true in subst Q (sym x.0) refl))

module _ (t : Tables) (ts : List (Option ℕ)) (bs : List Bool) (rs : List ℕ) (h : IsSettling t (facts_in ts bs rs)) where
  pub deciding : (b k : ℕ) → b < length ts → slice_index_or ts b None ≡ None → goes_at t (root_of rs) b (slice_get t.blocks b) ≡ Some k
      → IsSettling t (facts_in (slice_set ts b (Some k)) bs rs)
  deciding b k l free go =
      fewer t (facts_in ts bs rs) h (λ c. slice_index_or bs c false) T less h.unreached known h.entry (λ c j e i s. h.onward c j e i (less e s)) goes_there
    where
      T : ℕ → Option ℕ
      T c = slice_index_or (slice_set ts b (Some k)) c None

      here : (c : ℕ) → c ≡ b → T c ≡ Some k
      here c q = ap T q ∙ get_or-set_same ts b (Some k) None l

      there : (c : ℕ) → c ≢ b → T c ≡ slice_index_or ts c None
      there c m = get_or-set_other ts b c (Some k) None m

      less : (e : Edge) → (slice_index_or bs e.from false && goes_to (T e.from) e.index) ≡ true → (slice_index_or bs e.from false && goes_to (slice_index_or ts e.from None) e.index) ≡ true
      less e s = pick (cases_eq e.from b)
        where
          pick : (e.from ≡ b) ⊎ (e.from ≢ b) → (slice_index_or bs e.from false && goes_to (slice_index_or ts e.from None) e.index) ≡ true
          pick (inl q) = stays_open (slice_index_or bs e.from false) (T e.from) (slice_index_or ts e.from None) e.index (ap (λ (c : ℕ). slice_index_or ts c None) q ∙ free) s
          pick (inr m) = (let P : Option ℕ → Type 0 = λ o. (slice_index_or bs e.from false && goes_to o e.index) ≡ true in subst P (there e.from m) s)

      goes_there : (c j : ℕ) → T c ≡ Some j → goes_at t (root_of rs) c (slice_get t.blocks c) ≡ Some j
      goes_there c j e = pick (cases_eq c b)
        where
          pick : (c ≡ b) ⊎ (c ≢ b) → goes_at t (root_of rs) c (slice_get t.blocks c) ≡ Some j
          pick (inl q) = ap (λ (x : ℕ). goes_at t (root_of rs) x (slice_get t.blocks x)) q ∙ go ∙ sym (here c q) ∙ e
          pick (inr m) = h.goes c j (sym (there c m) ∙ e)

      known : (c j : ℕ) → T c ≡ Some j → Known t (goes c j)
      known c j e = known_goes t (facts_in ts bs rs) h c j (goes_there c j e)

  -- a block is left to which no edge leads
  pub leaving : (b : ℕ) → b ≢ 0 → b < length bs → ((k : ℕ) (e : Edge) → slice_get (edges_to t b) k ≡ Some e → edge_stays (facts_in ts bs rs) e ≡ false)
      → IsSettling t (facts_in ts (slice_set bs b false) rs)
  leaving b later l alone =
      fewer t (facts_in ts bs rs) h R (λ c. slice_index_or ts c None) less lost h.taken start on h.goes
    where
      R : ℕ → Bool
      R c = slice_index_or (slice_set bs b false) c false

      there : (c : ℕ) → c ≢ b → R c ≡ slice_index_or bs c false
      there c m = get_or-set_other bs b c false false m

      here : (c : ℕ) → c ≡ b → R c ≡ false
      here c q = ap R q ∙ get_or-set_same bs b false false l

      less : (e : Edge) → (R e.from && goes_to (slice_index_or ts e.from None) e.index) ≡ true → (slice_index_or bs e.from false && goes_to (slice_index_or ts e.from None) e.index) ≡ true
      less e s = pick (cases_eq e.from b)
        where
          pick : (e.from ≡ b) ⊎ (e.from ≢ b) → (slice_index_or bs e.from false && goes_to (slice_index_or ts e.from None) e.index) ≡ true
          pick (inl q) = (let x = (both_true (R e.from) (goes_to (slice_index_or ts e.from None) e.index) s).0 in let y = here e.from q in absurd cc)
          pick (inr m) = (let P : Bool → Type 0 = λ o. (o && goes_to (slice_index_or ts e.from None) e.index) ≡ true in subst P (there e.from m) s)

      lost : (c : ℕ) → R c ≡ false → Known t (unreached c)
      lost c e = pick (cases_eq c b)
        where
          into : (d k : ℕ) (x : Edge) → slice_get (edges_to t d) k ≡ Some x → (d == b) ≡ true → (x.from == b) ≡ false → Known t (cut x)
          into d k x i w z =
              let q = eqb-true d b w in
              let P : ℕ → Type 0 = λ n. slice_get (edges_to t n) k ≡ Some x in
              gone_known t (facts_in ts bs rs) h x (alone k x (subst P q i))

          pick : (c ≡ b) ⊎ (c ≢ b) → Known t (unreached c)
          pick (inl q) = apart (λ n. n == b) c (eq-eqb c b q) (is_false (0 == b) (λ z. later (sym (eqb-true 0 b z)))) into
          pick (inr m) = h.unreached c (sym (there c m) ∙ e)

      start : (c : BlockRecord) → slice_get t.blocks 0 ≡ Some c → R 0 ≡ true
      start c i = there 0 (λ q. later (sym q)) ∙ h.entry c i

      on : (c k : ℕ) (e : Edge) → slice_get (edges_to t c) k ≡ Some e → (R e.from && goes_to (slice_index_or ts e.from None) e.index) ≡ true → R c ≡ true
      on c k e i s = pick (cases_eq c b)
        where
          pick : (c ≡ b) ⊎ (c ≢ b) → R c ≡ true
          pick (inl q) =
              let P : ℕ → Type 0 = λ n. slice_get (edges_to t n) k ≡ Some e in
              let x = alone k e (subst P q i) in
              let y = less e s in
              absurd cc
          pick (inr m) = there c m ∙ h.onward c k e i (less e s)

-- blocks are found

true_either : (xs : List Bool) (i : ℕ) → slice_index_or xs i false ≡ true → slice_index_or xs i true ≡ true
true_either [] i e = refl
true_either (x ∷ xs) zero e = e
true_either (x ∷ xs) (suc i) e = true_either xs i e

true_within : (xs : List Bool) (i : ℕ) → i < length xs → slice_index_or xs i true ≡ slice_index_or xs i false
true_within [] i l = absurd (omega (arith, l))
true_within (x ∷ xs) zero l = refl
true_within (x ∷ xs) (suc i) l = true_within xs i (omega (arith, l))

pub reached_within : (xs : List Bool) (i : ℕ) → slice_index_or xs i false ≡ true → i < length xs
reached_within [] i e = let x : false ≡ true = e in absurd cc
reached_within (x ∷ xs) zero e = omega arith
reached_within (x ∷ xs) (suc i) e = let r = reached_within xs i e in omega (arith, r)

not_true : (b : Bool) → not b ≡ true → b ≡ false
not_true true e = let x : false ≡ true = e in absurd cc
not_true false e = refl

not_false : (b : Bool) → not b ≡ false → b ≡ true
not_false true e = refl
not_false false e = let x : true ≡ false = e in absurd cc

module _ (t : Tables) (ts : List (Option ℕ)) (bs : List Bool) (rs : List ℕ) (h : IsSettling t (facts_in ts bs rs)) where
  pub way_reached : (b : ℕ) → Way t (edge_stays (facts_in ts bs rs)) b → slice_index_or bs b false ≡ true
  way_reached _ (begin c i) = h.entry c i
  way_reached b (onward _ k e w i s) = h.onward b k e i s

  pub pruning : (size : length bs ≡ length t.blocks) (ls : List Bool) → IsFound t (facts_in ts bs rs) ls
      → ((b : ℕ) → b < length t.blocks → IsShut t (facts_in ts bs rs) ls b) → IsSettling t (facts_in ts ls rs)
  pruning size ls found shut =
      fewer t (facts_in ts bs rs) h R (λ c. slice_index_or ts c None) less lost h.taken found.entry (λ b k e i s. closed b k e i (less e s) (both_true (R e.from) _ s).0) h.goes
    where
      S : Edge → Bool
      S = edge_stays (facts_in ts bs rs)

      R : ℕ → Bool
      R b = slice_index_or ls b false

      less : (e : Edge) → (R e.from && goes_to (slice_index_or ts e.from None) e.index) ≡ true → (slice_index_or bs e.from false && goes_to (slice_index_or ts e.from None) e.index) ≡ true
      less e s =
          let x = both_true (R e.from) (goes_to (slice_index_or ts e.from None) e.index) s in
          let P : Bool → Type 0 = λ o. (o && goes_to (slice_index_or ts e.from None) e.index) ≡ true in
          subst P (x.0 ∙ sym (way_reached e.from (found.way e.from x.0))) s

      closed : (b k : ℕ) (e : Edge) → slice_get (edges_to t b) k ≡ Some e → S e ≡ true → R e.from ≡ true → R b ≡ true
      closed b k e i s f = go (R b) refl
        where
          go : (z : Bool) → R b ≡ z → z ≡ true
          go true d = refl
          go false d =
              let l = reached_within bs b (h.onward b k e i s) in
              let x = shut b (omega (arith, l, size)) d k e i in
              let P : Bool → Type 0 = λ o. (o && S e) ≡ false in
              let Q : Bool → Type 0 = λ o. (true && o) ≡ false in
              let y : true ≡ false = subst Q s (subst P f x) in
              absurd cc

      lost : (b : ℕ) → R b ≡ false → Known t (unreached b)
      lost b d = go (cases_lt b (length t.blocks))
        where
          into : (c k : ℕ) (e : Edge) → slice_get (edges_to t c) k ≡ Some e → not (slice_index_or ls c true) ≡ true → not (slice_index_or ls e.from true) ≡ false → Known t (cut e)
          into c k e i wc we = by (S e) refl
            where
              by : (z : Bool) → S e ≡ z → Known t (cut e)
              by false s = gone_known t (facts_in ts bs rs) h e s
              by true s =
                  let r = (both_true (slice_index_or bs e.from false) _ s).0 in
                  let l = reached_within bs e.from r in
                  let n = found.size in
                  let f : R e.from ≡ true = sym (true_within ls e.from (omega (arith, l, size, n))) ∙ not_false (slice_index_or ls e.from true) we in
                  let x = true_either ls c (closed c k e i s f) in
                  let y = not_true (slice_index_or ls c true) wc in
                  absurd cc

          start : (c : BlockRecord) → slice_get t.blocks 0 ≡ Some c → not (slice_index_or ls 0 true) ≡ false
          start c i = ap not (true_either ls 0 (found.entry c i))

          go : (b < length t.blocks) ⊎ (length t.blocks ≤ b) → Known t (unreached b)
          go (inr l) = none b (slice_get_past t.blocks b l)
          go (inl l) =
              let n = found.size in
              apart (λ x. not (slice_index_or ls x true)) b (ap not (true_within ls b (omega (arith, l, n)) ∙ d)) (first_there t.blocks (omega (arith, l)) start) into
            where
              first_there : (cs : List BlockRecord) → 0 < length cs → ((c : BlockRecord) → slice_get cs 0 ≡ Some c → not (slice_index_or ls 0 true) ≡ false) → not (slice_index_or ls 0 true) ≡ false
              first_there [] l f = absurd (omega (arith, l))
              first_there (c ∷ cs) l f = f c refl
