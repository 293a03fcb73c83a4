-- The end of a block: what is defined there is known, edges are crossed, and results are taken.
use Rattle.std.proofs.Common.{◌≡◌, ℕ, zero, suc, ◌+◌, ◌-◌, refl, ap, sym, ◌∙◌, subst, arith, inl, inr, List, [], ◌∷◌, ◌++◌, length, take, map, append-nil, Option, Some, None, Bool, true, false}
use Rattle.std.specs.Prelude.{slice_get, slice_index, if◌then◌else◌}
use Rattle.std.specs.List.{Contains}
use Rattle.bk_ops.specs.declared.types.Ty.{Ty}
use Rattle.bk_func.specs.Records.{ValueRecord, BlockRecord, FuncRecord}
use Rattle.bk_func.specs.Numbers.{Program, origin_of, numbers, values_of, value_of}
use Rattle.bk_func.specs.Effects.{chain_from, is_phi}
use Rattle.bk_func.specs.Words.{words_at}
use Rattle.bk_func.specs.Meaning.{World, Activation, first_state, entered, edge_place, number_named, without_memory, is_make_result, words_back, results_by, value_named}
use Rattle.bk_func.specs.declared.form.FormKind.TheVariants.{Missing, Control}
use Rattle.bk_func.specs.Form.Text.{HasBlock, HasValue, IsPhi}
use Rattle.bk_func.specs.Form.Walks.{IsReached, IsDefinedAt}
use Rattle.bk_func.specs.Form.Signatures.{Setting, whole}
use Rattle.bk_func.proofs.Faults.{In}
use Rattle.bk_func.proofs.Flat.{Laid, last, more, Still}
use Rattle.bk_mean.specs.Numbering.{place_in}
use Rattle.bk_mean.specs.Machine.{at_place}
use Rattle.bk_mean.specs.Ready.{IsReadyValue, AreReadyValues, count_values, phis_from}
use Rattle.bk_mean.specs.Left.{put_all, phi_number, phi_numbers, given_words, results_of}
use Rattle.bk_mean.specs.Turned.{Stage, Ground}
use Rattle.bk_mean.specs.declared.ready.ReadyValue.{ReadyValue}
use Rattle.bk_mean.specs.declared.ready.ReadyBlock.{ReadyBlock}
use Rattle.bk_places.proofs.Elements.{to_in, to_contains}
use Rattle.bk_mean.proofs.Named.{got_in, in_got, found_value, value_found}
use Rattle.bk_mean.proofs.Dominance.{Home, home, defined_before, arguments_defined, reached_block, reached_over}
use Rattle.bk_mean.proofs.Formed.{Sound, sound}
use Rattle.bk_mean.proofs.Chains.{effect_no_phi}
use Rattle.bk_mean.proofs.Along.{entered_shown}
use Rattle.bk_mean.proofs.Edges.{edge_arrives, phi_argument_defined}
use Rattle.bk_mean.proofs.Walked.{Arrives, Departs, arrives_over, arrives_reached, departs, last_state}
use Rattle.bk_mean.proofs.Filling.{filled_in, memory_after}
use Rattle.bk_mean.proofs.Knowing.{knows_end, knows_entered}
use Rattle.bk_mean.proofs.Tabled.{table, table_read, place_at, place_apart, place_below, ready_at, ready_there}
use Rattle.bk_mean.proofs.Putting.{put_length, put_other, put_own, phi_listed, listed_phi}
use Rattle.bk_mean.proofs.Doing.{Order, IsAt, phi_family}

-- the state of memory at the end

still_after : (n : ℕ) (xs ys : List ValueRecord) → Still xs → memory_after n (xs ++ ys) ≡ memory_after n ys
still_after n [] ys h = refl
still_after n (x ∷ xs) ys h = ap (λ t. memory_after (if t then x.id else n) (xs ++ ys)) h.0 ∙ still_after n xs ys h.1

laid_last : (f : FuncRecord) (b : BlockRecord) (n : ℕ) (vs ls : List ValueRecord) → Laid f b n vs ls → memory_after n ls ≡ last_state n vs
laid_last f b _ _ _ (last n vs still k) = ap (memory_after n) (sym (append-nil vs)) ∙ still_after n vs [] still
laid_last f b _ _ _ (more n vs rest ls v still k act laid) =
    still_after n vs (v ∷ ls) still ∙ ap (λ t. memory_after (if t then v.id else n) ls) act ∙ laid_last f b v.id rest ls laid

-- numbers at the places of arguments
named_place : (f : FuncRecord) (numbers ns : List ℕ) (i : ℕ) → at_place numbers (slice_get (map (place_in f) ns) i) ≡ number_named (table f numbers) (slice_get ns i)
named_place f numbers [] i = refl
named_place f numbers (n ∷ ns) zero = refl
named_place f numbers (n ∷ ns) (suc i) = named_place f numbers ns i

pub without_places : (f : FuncRecord) (ns : List ℕ) → without_memory (map (place_in f) ns) ≡ map (place_in f) (without_memory ns)
without_places f ns = ap (λ k. take (k - 1) (map (place_in f) ns)) (map_length ns) ∙ map_take (length ns - 1) ns
  where
    map_length : (xs : List ℕ) → length (map (place_in f) xs) ≡ length xs
    map_length [] = refl
    map_length (x ∷ xs) = ap suc (map_length xs)

    map_take : (k : ℕ) (xs : List ℕ) → take k (map (place_in f) xs) ≡ map (place_in f) (take k xs)
    map_take zero xs = refl
    map_take (suc k) [] = refl
    map_take (suc k) (x ∷ xs) = ap (λ ys. place_in f x ∷ ys) (map_take k xs)

pub in_take : (k : ℕ) (xs : List ℕ) (x : ℕ) → In x (take k xs) → In x xs
in_take zero xs x i = elim i [ ]
in_take (suc k) [] x i = elim i [ ]
in_take (suc k) (y ∷ ys) x (inl e) = inl e
in_take (suc k) (y ∷ ys) x (inr i) = inr (in_take k ys x i)

pub same_map : (g h : ℕ → ℕ) (xs : List ℕ) → ((x : ℕ) → In x xs → g x ≡ h x) → map g xs ≡ map h xs
same_map g h [] k = refl
same_map g h (x ∷ xs) k = let a = k x (inl refl) in let d = same_map g h xs (λ y i. k y (inr i)) in cc

module _ (p : Program) (s : Setting) (f : FuncRecord) (b : BlockRecord) (m : ℕ) (level class : ValueRecord → ℕ) (ls : List ValueRecord) (o : Order s f b m level class ls) (g : Ground) (u : Stage) (d : Activation) (y : World) (at : IsAt p f b m g ls u d y) where
  h : Sound s f
  h = sound s f o.formed

  reached : IsReached f b
  reached = arrives_reached f b m o.arrives

  -- all that is defined there is known
  pub end_known : (n : ℕ) → IsDefinedAt f b n → table f u.numbers n ≡ numbers p f d.env n
  end_known n defined = knows_end s f b ls (λ v i. filled_in b level class b.values ls o.filled v (to_in v b.values i.1)) p (table f u.numbers) d.env at.knows n defined

  pub ends_with : Departs f b d.memory
  ends_with =
      let P : ℕ → Type 0 = λ n. Departs f b n in
      subst P (sym (at.memory ∙ laid_last f b (first_state b m) (chain_from f b (first_state b m)) ls o.laid)) (departs s f h b m o.arrives)

  module _ (rs : List ReadyValue) (ready : AreReadyValues p.pkg f (values_of f) rs) (index j : ℕ) (c : BlockRecord) (r : ReadyBlock) (edge : slice_get b.succs index ≡ Some c.id) (stands : slice_get f.blocks j ≡ Some c) (first : r.first ≡ count_values (take j f.blocks)) (phis : r.phis.items ≡ phis_from 0 c.values) (place : ℕ) (its : place ≡ edge_place b index (Some c)) where
    has_b : HasBlock f b
    has_b = reached_block f b reached

    has_c : HasBlock f c
    has_c = to_contains c f.blocks (got_in f.blocks j c stands)

    succ : Contains b.succs c.id
    succ = to_contains c.id b.succs (got_in b.succs index c.id edge)

    pub crosses_to : Arrives f c d.memory
    crosses_to = arrives_over f b c d.memory ends_with has_c succ

    arrived : slice_get c.preds place ≡ Some b.id
    arrived = ap (slice_get c.preds) its ∙ edge_arrives s f (o.formed.kinds Control) (o.formed.kinds Missing) b c has_b has_c index edge

    number : ℕ → ℕ
    number k = phi_number (slice_get rs (r.first + k)) u.numbers place

    abbrev pub numbers_then : List ℕ
    numbers_then = put_all r.first r.phis.items (phi_numbers r.first rs u.numbers place r.phis.items) u.numbers

    place_of_phi : (k : ℕ) (v : ValueRecord) → slice_get c.values k ≡ Some v → place_in f v.id ≡ r.first + k
    place_of_phi k v e = place_at s f (o.formed.kinds Missing) j k c v stands e ∙ ap (λ n. n + k) (sym first)

    -- what a phi takes
    number_of_phi : (k : ℕ) (v : ValueRecord) → slice_get c.values k ≡ Some v → IsPhi v → phi_number (slice_get rs (r.first + k)) u.numbers place ≡ number_named (numbers p f d.env) (slice_get v.args place)
    number_of_phi k v e q =
        let has : HasValue f c v = (has_c, to_contains v c.values (got_in c.values k v e)) in
        let found = ready_there s f (o.formed.kinds Missing) p.pkg rs ready c v has in
        let known = ready_at s f (o.formed.kinds Missing) p.pkg rs ready c v has found.0 found.1 in
        ap (λ n. phi_number (slice_get rs n) u.numbers place) (sym (place_of_phi k v e))
        ∙ ap (λ z. phi_number z u.numbers place) found.1
        ∙ ap (λ ns. at_place u.numbers (slice_get ns place)) known.args
        ∙ named_place f u.numbers v.args place
        ∙ go has (slice_get v.args place) refl
      where
        go : HasValue f c v → (z : Option ℕ) → slice_get v.args place ≡ z → number_named (table f u.numbers) z ≡ number_named (numbers p f d.env) z
        go has None k = refl
        go has (Some n) k = end_known n (phi_argument_defined s f h.uses b c v has_b has q place n arrived k)

    same_elsewhere : (x : ℕ) → ((v : ValueRecord) → HasValue f c v → IsPhi v → ¬ (v.id ≡ x)) → table f numbers_then x ≡ table f u.numbers x
    same_elsewhere x none = put_other r.first r.phis.items (phi_numbers r.first rs u.numbers place r.phis.items) u.numbers (place_in f x) apart
      where
        apart : (k : ℕ) → In k r.phis.items → place_in f x ≡ r.first + k → ⊥
        apart k i e =
            let P : List ℕ → Type 0 = λ ks. In k ks in
            let q = listed_phi 0 c.values k (subst P phis i) in
            let v = q.1 in
            let z : k ≡ q.0 = omega (arith, q.2) in
            let has : HasValue f c v = (has_c, to_contains v c.values (got_in c.values q.0 v q.3)) in
            place_apart s f (o.formed.kinds Missing) c v has x (λ t. none v has (phi_family v.op.family q.4) (sym t)) (e ∙ ap (λ n. r.first + n) z ∙ sym (place_of_phi q.0 v q.3))

    phi_there : (v : ValueRecord) → HasValue f c v → IsPhi v → table f numbers_then v.id ≡ number_named (numbers p f d.env) (slice_get v.args place)
    phi_there v has q =
        let k = in_got c.values v (to_in v c.values has.1) in
        let P : List ℕ → Type 0 = λ ks. In k.0 ks in
        let z : 0 + k.0 ≡ k.0 = omega arith in
        let R : ℕ → Type 0 = λ n. In n (phis_from 0 c.values) in
        let i : In k.0 r.phis.items = subst P (sym phis) (subst R z (phi_listed 0 c.values k.0 v k.1 (ap (λ t. is_phi (origin_of t)) q))) in
        let e = place_of_phi k.0 v k.1 in
        let l = place_below s f (o.formed.kinds Missing) c v has in
        let w = at.long in
        ap (slice_index numbers_then) e
        ∙ put_own r.first (λ n. phi_number (slice_get rs (r.first + n)) u.numbers place) r.phis.items u.numbers k.0 (inl i) (omega (arith, e, l, w))
        ∙ number_of_phi k.0 v k.1 q

    -- the block is entered
    pub crossed : IsAt p f c d.memory g [] (record { numbers = numbers_then; window = u.window; words = u.words }) (entered p f c place d y) y
    crossed = record {
      target = at.target;
      args = at.args;
      knows = knows_entered s f h p c (reached_over f b c reached has_c succ) place d y at.shown (table f u.numbers) (table f numbers_then)
          (λ x defined off. end_known x (defined_before f b c x has_c succ defined off)) same_elsewhere phi_there;
      blank = λ a v i e n. same_elsewhere v.id (λ x ix q k. effect_no_phi v e (let z = h.named.same_value c a x v ix i k in ap (λ (t : ValueRecord). t.op.family) (sym z) ∙ q)) ∙ at.blank a v i e n;
      long = (let l = at.long in let e = put_length r.first r.phis.items (phi_numbers r.first rs u.numbers place r.phis.items) u.numbers in omega (arith, l, e));
      memory = refl;
      shown = entered_shown p f c place d y;
      window = at.window;
      out = at.out;
      back = at.back;
      regs = at.regs;
    }

  -- the numbers of a value's arguments, where the value is defined at the end
  args_read : (a : BlockRecord) (v : ValueRecord) → HasValue f a v → ¬ IsPhi v → IsDefinedAt f b v.id → map (table f u.numbers) (without_memory v.args) ≡ map (numbers p f d.env) (without_memory v.args)
  args_read a v i q defined =
      same_map (table f u.numbers) (numbers p f d.env) (without_memory v.args)
      (λ x j. end_known x (arguments_defined s f h.named h.uses a b v i q defined x (in_take (length v.args - 1) v.args x j)))

  -- the results that are taken are those that the control gives
  pub results_taken : p.places ≡ whole → (rs : List ReadyValue) → AreReadyValues p.pkg f (values_of f) rs → (id control : ℕ) → b.control ≡ Some id → control ≡ place_in f id →
      results_of (slice_get rs control) u.numbers f.sig u.words ≡ results_by (value_named f b.control) p f d
  results_taken places rs ready id control e k = go (value_of f id) refl
    where
      defined : IsDefinedAt f b id
      defined = (h.uses b (reached_block f b reached)).block id e

      words : given_words f.sig u.words ≡ words_back p f d
      words =
          ap (λ (x : ℕ → ℕ). u.words.regs.items ++ words_at x (length f.sig.args + length u.words.regs.items) (length f.sig.results - length u.words.regs.items)) (sym at.back)
          ∙ ap (λ (xs : List ℕ). xs ++ words_at d.back (length f.sig.args + length xs) (length f.sig.results - length xs)) (sym at.regs)
          ∙ ap (λ (g : List Ty → List Ty). d.regs ++ words_at d.back (length (g f.sig.args) + length d.regs) (length (g f.sig.results) - length d.regs)) (sym places)

      by_control : (v : ValueRecord) → value_of f id ≡ Some v → results_of (slice_get rs control) u.numbers f.sig u.words ≡ results_by (Some v) p f d
      by_control v z =
          let w = value_found f id v z in
          let r = ready_there s f (o.formed.kinds Missing) p.pkg rs ready w.0 v w.1 in
          let known = ready_at s f (o.formed.kinds Missing) p.pkg rs ready w.0 v w.1 r.0 r.1 in
          let at_v : slice_get rs control ≡ Some r.0 = ap (slice_get rs) (k ∙ ap (place_in f) (sym w.2)) ∙ r.1 in
          let P : ℕ → Type 0 = λ n. IsDefinedAt f b n in
          ap (λ x. results_of x u.numbers f.sig u.words) at_v ∙ ap (λ c. if c then map (slice_index u.numbers) (without_memory r.0.args.items) else given_words f.sig u.words) known.gives_results
          ∙ by (is_make_result v.op.family) refl w.0 w.1 (subst P (sym w.2) defined) r.0 known
        where
          by : (c : Bool) → is_make_result v.op.family ≡ c → (a : BlockRecord) → HasValue f a v → IsDefinedAt f b v.id → (r : ReadyValue) → IsReadyValue p.pkg f v r →
              (if is_make_result v.op.family then map (slice_index u.numbers) (without_memory r.args.items) else given_words f.sig u.words) ≡ results_by (Some v) p f d
          by true c a i def r known =
              ap (λ x. if x then map (slice_index u.numbers) (without_memory r.args.items) else given_words f.sig u.words) c
              ∙ ap (λ xs. map (slice_index u.numbers) (without_memory xs)) known.args
              ∙ ap (map (slice_index u.numbers)) (without_places f v.args)
              ∙ table_read f u.numbers (without_memory v.args)
              ∙ args_read a v i (λ x. let y = ap is_make_result x in cc) def
              ∙ ap (λ x. if x then map (numbers p f d.env) (without_memory v.args) else words_back p f d) (sym c)
          by false c a i def r known =
              ap (λ x. if x then map (slice_index u.numbers) (without_memory r.args.items) else given_words f.sig u.words) c ∙ words
              ∙ ap (λ x. if x then map (numbers p f d.env) (without_memory v.args) else words_back p f d) (sym c)

      value_is : (z : Option ValueRecord) → value_of f id ≡ z → value_named f b.control ≡ z
      value_is z w = ap (value_named f) e ∙ w

      go : (z : Option ValueRecord) → value_of f id ≡ z → results_of (slice_get rs control) u.numbers f.sig u.words ≡ results_by (value_named f b.control) p f d
      go None z = absurd (missing z (home f h.named b id reached defined))
        where
          missing : value_of f id ≡ None → Home f b id → ⊥
          missing z w = let x = found_value f h.named w.block w.value id w.stands w.named in cc
      go (Some v) z = by_control v z ∙ ap (λ x. results_by x p f d) (sym (value_is (Some v) z))
