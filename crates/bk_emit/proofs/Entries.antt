-- The values of a function in a table, with the handles of their keys.
use Rattle.std.proofs.Common.{◌≡◌, ◌∙◌, sym, refl, ap, subst, ℕ, suc, ◌+◌, ◌<◌, ◌≤◌, ◌==◌, List, [], ◌∷◌, ◌++◌, length, get_or, drop, Option, Some, None, arith}
use Rattle.std.proofs.Math.Seq.{drop-cons}
use Rattle.std.specs.List.{flat_map}
use Rattle.std.specs.Option.{option_or}
use Rattle.std.proofs.lemmas.List.{drop_all}
use Rattle.std.proofs.lemmas.List.Concat.{flat_map-cons}
use Rattle.std.proofs.lemmas.List.Folds.{find-append}
use Rattle.bk_func.specs.Records.{ValueRecord, BlockRecord}
use Rattle.bk_piece.specs.declared.Handle.{Handle}
use Rattle.bk_emit.specs.Forms as spec
use Rattle.bk_emit.specs.Code.{handle_by, handed, left_behind, left_by, entry_of}
use Rattle.bk_emit.specs.Tables.{IsPut}

left_append : (vs ws : List ValueRecord) (hs : List Handle) → left_behind (vs ++ ws) hs ≡ left_behind ws (left_behind vs hs)
unfolding left_behind
left_append [] ws hs = refl
left_append (v ∷ vs) ws hs = left_append vs ws (left_by v hs)

handed_append : (vs ws : List ValueRecord) (hs : List Handle) → handed (vs ++ ws) hs ≡ handed vs hs ++ handed ws (left_behind vs hs)
unfolding handed left_behind
handed_append [] ws hs = refl
handed_append (v ∷ vs) ws hs = ap (λ es. (v, handle_by v hs) ∷ es) (handed_append vs ws (left_by v hs))

or_assoc : {A : Type 0} (a b c : Option A) → option_or (option_or a b) c ≡ option_or a (option_or b c)
or_assoc None b c = refl
or_assoc (Some x) b c = refl

or_none : {A : Type 0} (a : Option A) → option_or a None ≡ a
or_none None = refl
or_none (Some x) = refl

entry_append : (es fs : List spec.Entry) (id : ℕ) → entry_of (es ++ fs) id ≡ option_or (entry_of es id) (entry_of fs id)
entry_append es fs id = find-append (λ e. e.0.id == id) es fs

pub put_start : (all : List ValueRecord) (keys : List Handle) (g : ℕ → Option spec.Entry) → IsPut all all keys keys g g
put_start all keys g = record { handles = refl; entries = λ id. refl }

-- some more values are put
pub put_some : (all vs ws left : List ValueRecord) (keys hs rest : List Handle) (before now more : ℕ → Option spec.Entry) → left ≡ vs ++ ws → IsPut all left keys hs before now → rest ≡ left_behind vs hs → ((id : ℕ) → more id ≡ option_or (now id) (entry_of (handed vs hs) id)) → IsPut all ws keys rest before more
put_some all vs ws left keys hs rest before now more l w r m = record {
  handles = ap (left_behind ws) r ∙ (sym (left_append vs ws hs) ∙ (ap (λ x. left_behind x hs) (sym l) ∙ w.handles));
  entries = λ id.
      let a : ℕ → Option spec.Entry = λ i. entry_of (handed vs hs) i in
      let b : Option spec.Entry = entry_of (handed ws rest) id in
      let parts : entry_of (handed left hs) id ≡ option_or (a id) b =
      ap (λ x. entry_of (handed x hs) id) l ∙ (ap (λ x. entry_of x id) (handed_append vs ws hs) ∙ (entry_append (handed vs hs) (handed ws (left_behind vs hs)) id ∙ ap (λ x. option_or (a id) (entry_of (handed ws x) id)) (sym r))) in
      ap (λ x. option_or x b) (m id) ∙ (or_assoc (now id) (a id) b ∙ (ap (λ x. option_or (now id) x) (sym parts) ∙ w.entries id));
}

-- all values are put
pub put_rest : (all : List ValueRecord) (keys rest : List Handle) (before now : ℕ → Option spec.Entry) → IsPut all [] keys rest before now → rest ≡ left_behind all keys
unfolding left_behind
put_rest all keys rest before now w = w.handles

pub put_entries : (all : List ValueRecord) (keys rest : List Handle) (before now : ℕ → Option spec.Entry) → IsPut all [] keys rest before now → (id : ℕ) → now id ≡ option_or (before id) (entry_of (handed all keys) id)
unfolding handed
put_entries all keys rest before now w id = sym (or_none (now id)) ∙ w.entries id

next_value : (vs : List ValueRecord) (k : ℕ) (v : ValueRecord) → k < length vs → v ≡ get_or vs k v → drop k vs ≡ (v ∷ []) ++ drop (k + 1) vs
next_value vs k v l i =
    let next : suc k ≡ k + 1 = omega arith in
    drop-cons vs k v l ∙ (ap (λ x. x ∷ drop (suc k) vs) (sym i) ∙ ap (λ j. v ∷ drop j vs) next)

one_left : (v : ValueRecord) (hs : List Handle) → left_behind (v ∷ []) hs ≡ left_by v hs
unfolding left_behind
one_left v hs = refl

one_handed : (v : ValueRecord) (hs : List Handle) → handed (v ∷ []) hs ≡ (v, handle_by v hs) ∷ []
unfolding handed
one_handed v hs = refl

-- one more value is put
pub put_one : (vs : List ValueRecord) (k : ℕ) (v : ValueRecord) (keys hs rest : List Handle) (h : Option Handle) (before now more : ℕ → Option spec.Entry) → k < length vs → v ≡ get_or vs k v → h ≡ handle_by v hs → rest ≡ left_by v hs → ((id : ℕ) → more id ≡ option_or (now id) (entry_of ((v, h) ∷ []) id)) → IsPut vs (drop k vs) keys hs before now → IsPut vs (drop (k + 1) vs) keys rest before more
put_one vs k v keys hs rest h before now more l i e r m w =
    put_some vs (v ∷ []) (drop (k + 1) vs) (drop k vs) keys hs rest before now more (next_value vs k v l i) w (r ∙ sym (one_left v hs))
    (λ id. m id ∙ (ap (λ x. option_or (now id) (entry_of ((v, x) ∷ []) id)) e ∙ ap (λ es. option_or (now id) (entry_of es id)) (sym (one_handed v hs))))

pub all_rest : (vs : List ValueRecord) (k : ℕ) (keys rest : List Handle) (before now : ℕ → Option spec.Entry) → length vs ≤ k → IsPut vs (drop k vs) keys rest before now → rest ≡ left_behind vs keys
all_rest vs k keys rest before now l w =
    put_rest vs keys rest before now (subst (λ x. IsPut vs x keys rest before now) (drop_all k vs l) w)

pub all_entries : (vs : List ValueRecord) (k : ℕ) (keys rest : List Handle) (before now : ℕ → Option spec.Entry) → length vs ≤ k → IsPut vs (drop k vs) keys rest before now → (id : ℕ) → now id ≡ option_or (before id) (entry_of (handed vs keys) id)
all_entries vs k keys rest before now l w =
    put_entries vs keys rest before now (subst (λ x. IsPut vs x keys rest before now) (drop_all k vs l) w)

abbrev pub values_in : List BlockRecord → List ValueRecord
values_in bs = flat_map (λ b. b.values) bs

next_values : (bs : List BlockRecord) (k : ℕ) (b : BlockRecord) (vs : List ValueRecord) → k < length bs → b ≡ get_or bs k b → vs ≡ b.values → values_in (drop k bs) ≡ vs ++ values_in (drop (k + 1) bs)
next_values bs k b vs l i e =
    let next : suc k ≡ k + 1 = omega arith in
    let behind : drop k bs ≡ b ∷ drop (k + 1) bs =
    drop-cons bs k b l ∙ (ap (λ x. x ∷ drop (suc k) bs) (sym i) ∙ ap (λ j. b ∷ drop j bs) next) in
    ap values_in behind ∙ (flat_map-cons (λ x. x.values) b (drop (k + 1) bs) ∙ ap (λ x. x ++ values_in (drop (k + 1) bs)) (sym e))

-- the values of one more block are put
pub put_block : (bs : List BlockRecord) (k : ℕ) (b : BlockRecord) (vs : List ValueRecord) (keys hs rest : List Handle) (before now more : ℕ → Option spec.Entry) → k < length bs → b ≡ get_or bs k b → vs ≡ b.values → rest ≡ left_behind vs hs → ((id : ℕ) → more id ≡ option_or (now id) (entry_of (handed vs hs) id)) → IsPut (values_in bs) (values_in (drop k bs)) keys hs before now → IsPut (values_in bs) (values_in (drop (k + 1) bs)) keys rest before more
put_block bs k b vs keys hs rest before now more l i e r m w =
    put_some (values_in bs) vs (values_in (drop (k + 1) bs)) (values_in (drop k bs)) keys hs rest before now more (next_values bs k b vs l i e) w r m

pub blocks_rest : (bs : List BlockRecord) (k : ℕ) (keys rest : List Handle) (before now : ℕ → Option spec.Entry) → length bs ≤ k → IsPut (values_in bs) (values_in (drop k bs)) keys rest before now → rest ≡ left_behind (values_in bs) keys
blocks_rest bs k keys rest before now l w =
    put_rest (values_in bs) keys rest before now (subst (λ x. IsPut (values_in bs) (values_in x) keys rest before now) (drop_all k bs l) w)

pub blocks_entries : (bs : List BlockRecord) (k : ℕ) (keys rest : List Handle) (before now : ℕ → Option spec.Entry) → length bs ≤ k → IsPut (values_in bs) (values_in (drop k bs)) keys rest before now → (id : ℕ) → now id ≡ option_or (before id) (entry_of (handed (values_in bs) keys) id)
blocks_entries bs k keys rest before now l w =
    put_entries (values_in bs) keys rest before now (subst (λ x. IsPut (values_in bs) (values_in x) keys rest before now) (drop_all k bs l) w)
