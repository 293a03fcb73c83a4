-- What is printed of a function, read again, is the function.
use Rattle.std.proofs.Common.{◌≡◌, ℕ, suc, ◌<◌, ◌≤◌, List, [], ◌∷◌, ◌++◌, length, map, ap, ◌∙◌, sym, refl, subst, arith, Option, Some, None}
use Rattle.std.specs.Prelude.{Result, Ok, codes}
use Rattle.std.specs.List.{AllZip, AllByRecursion}
use Rattle.bk_ops.specs.declared.types.Ty.{Ty}
use Rattle.bk_func.specs.declared.parts.Aux.{Aux}
use Rattle.bk_func.specs.Records.{ValueRecord, BlockRecord, SigRecord, FuncRecord}
use Rattle.bk_dump.specs.Trees.{ValueTree, EndTree, ParameterTree, HeaderTree, BlockTree, FuncTree}
use Rattle.bk_dump.specs.Drafts.{parameter_names}
use Rattle.bk_dump_laws.specs.Declarations.{value_ids, block_ids, declared_func}
use Rattle.bk_dump_laws.specs.Printed.{value_tree, block_tree, header_tree}
use Rattle.bk_dump.specs.Resolved.{◌>>=◌, Scope, scope_of, each, missing, unless, looked_up, value_of, missing_at_end, made_block, block_of, func_of}
use Rattle.bk_dump_laws.proofs.Naming.{ok_is, bound, each_is, IsFunc}
use Rattle.bk_dump_laws.proofs.References.{IsGiven, Renames, mention_again, arguments, parameters_named, parameters_typed}

unless_ok : {A : Type 0} (o : Option (List ℕ)) (r : Result A (List ℕ)) (y : A) → unless o r ≡ Ok y → (o ≡ None) × (r ≡ Ok y)
unless_ok None r y h = (refl, h)
unless_ok (Some n) r y h = absurd (cc)

-- Values.

abbrev made_value : ValueTree → Aux → ValueRecord
made_value v x = record { id = v.id; op = v.op; ty = v.ty; args = v.args; int = v.int; aux = x }

-- the value of a tree
pub record IsValue (s : Scope) (v : ValueTree) (r : ValueRecord) : Type 0 where
  pub made : made_value v r.aux ≡ r
  pub found : looked_up s v.op.family v.mention ≡ Ok r.aux
  pub args : missing (codes "v") s.values v.args ≡ None

pub value_is : (s : Scope) (v : ValueTree) (r : ValueRecord) → value_of s v ≡ Ok r → IsValue s v r
unfolding value_of
value_is s v r h =
    let x = bound (looked_up s v.op.family v.mention) (λ x. unless (missing (codes "v") s.values v.args) (Ok (made_value v x))) r h in
    let u = unless_ok (missing (codes "v") s.values v.args) (Ok (made_value v x.0)) r x.2 in
    let same = ok_is (made_value v x.0) r u.1 in
    let beside : x.0 ≡ r.aux = ap (λ (r : ValueRecord). r.aux) same in
    record { made = ap (made_value v) (sym beside) ∙ same; found = x.1 ∙ ap Ok beside; args = u.0 }

made_again : (s t : Scope) (v : ValueTree) (x : Aux) → IsGiven v.mention.aux → looked_up s v.op.family v.mention ≡ Ok x → missing (codes "v") s.values v.args ≡ None → Renames s t → value_of t (value_tree t.names (made_value v x)) ≡ Ok (made_value v x)
unfolding value_of
made_again s t v x g h m r =
    ap (λ q. q >>= λ y. unless (missing (codes "v") t.values v.args) (Ok (made_value v y))) (mention_again s t v.op.family v.mention x g h r)
    ∙ ap (λ ids. unless (missing (codes "v") ids v.args) (Ok (made_value v x))) r.values
    ∙ ap (λ o. unless o (Ok (made_value v x))) m

value_again : (s t : Scope) (v : ValueTree) (r : ValueRecord) → IsGiven v.mention.aux → value_of s v ≡ Ok r → Renames s t → value_of t (value_tree t.names r) ≡ Ok r
value_again s t v r g h q =
    let i = value_is s v r h in
    subst (λ w. value_of t (value_tree t.names w) ≡ Ok w) i.made (made_again s t v r.aux g i.found i.args q)

abbrev pub AreGiven : List ValueTree → Type 0
AreGiven vs = AllByRecursion (λ (v : ValueTree). IsGiven v.mention.aux) vs

abbrev pub Values : Scope → List ValueTree → List ValueRecord → Type 0
Values s vs rs = AllZip (λ v r. value_of s v ≡ Ok r) vs rs

pub both_more : {A : Type 0} (q : Result A (List ℕ)) (p : Result (List A) (List ℕ)) (y : A) (ys : List A) → q ≡ Ok y → p ≡ Ok ys → (q >>= λ z. p >>= λ zs. Ok (z ∷ zs)) ≡ Ok (y ∷ ys)
both_more q p y ys h g = ap (λ r. r >>= λ z. p >>= λ zs. Ok (z ∷ zs)) h ∙ ap (λ r. r >>= λ zs. Ok (y ∷ zs)) g

values_again : (s t : Scope) (vs : List ValueTree) (rs : List ValueRecord) → AreGiven vs → Values s vs rs → Renames s t → each (value_of t) (map (value_tree t.names) rs) ≡ Ok rs
unfolding each
values_again s t [] [] g z q = refl
values_again s t [] (r ∷ rs) g z q = absurd z
values_again s t (v ∷ vs) [] g z q = absurd z
values_again s t (v ∷ vs) (r ∷ rs) g z q =
    both_more (value_of t (value_tree t.names r)) (each (value_of t) (map (value_tree t.names) rs)) r rs (value_again s t v r g.0 z.0 q) (values_again s t vs rs g.1 z.1 q)

-- Blocks.

-- the block of a tree
pub record IsBlock (s : Scope) (b : BlockTree) (r : BlockRecord) : Type 0 where
  pub made : made_block b.label r.values b.end ≡ r
  pub preds : missing (codes "b") s.blocks b.label.preds ≡ None
  pub values : each (value_of s) b.values ≡ Ok r.values
  pub end : missing_at_end s b.end ≡ None

pub block_is : (s : Scope) (b : BlockTree) (r : BlockRecord) → block_of s b ≡ Ok r → IsBlock s b r
unfolding block_of
block_is s b r h =
    let last = λ (vs : List ValueRecord). unless (missing_at_end s b.end) (Ok (made_block b.label vs b.end)) in
    let p = unless_ok (missing (codes "b") s.blocks b.label.preds) (each (value_of s) b.values >>= last) r h in
    let vs = bound (each (value_of s) b.values) last r p.1 in
    let e = unless_ok (missing_at_end s b.end) (Ok (made_block b.label vs.0 b.end)) r vs.2 in
    let same = ok_is (made_block b.label vs.0 b.end) r e.1 in
    let values : vs.0 ≡ r.values = ap (λ (r : BlockRecord). r.values) same in
    record { made = ap (λ ws. made_block b.label ws b.end) (sym values) ∙ same; preds = p.0; values = vs.1 ∙ ap Ok values; end = e.0 }

end_again : (s t : Scope) (e : EndTree) → Renames s t → missing_at_end s e ≡ None → missing_at_end t e ≡ None
unfolding missing_at_end
end_again s t e q h = ap (λ ids. missing_at_end (record { names = t.names; parameters = t.parameters; values = ids; blocks = t.blocks }) e) q.values ∙ ap (λ ids. missing_at_end (record { names = t.names; parameters = t.parameters; values = s.values; blocks = ids }) e) q.blocks ∙ h

block_made_again : (s t : Scope) (b : BlockTree) (rs : List ValueRecord) → AreGiven b.values → missing (codes "b") s.blocks b.label.preds ≡ None → each (value_of s) b.values ≡ Ok rs → missing_at_end s b.end ≡ None → Renames s t
    → block_of t (block_tree t.names (made_block b.label rs b.end)) ≡ Ok (made_block b.label rs b.end)
unfolding block_of
block_made_again s t b rs g p v e q =
    let last = λ (vs : List ValueRecord). unless (missing_at_end t b.end) (Ok (made_block b.label vs b.end)) in
    ap (λ ids. unless (missing (codes "b") ids b.label.preds) (each (value_of t) (map (value_tree t.names) rs) >>= last)) q.blocks
    ∙ ap (λ o. unless o (each (value_of t) (map (value_tree t.names) rs) >>= last)) p
    ∙ ap (λ r. r >>= last) (values_again s t b.values rs g (each_is (value_of s) b.values rs v) q)
    ∙ ap (λ o. unless o (Ok (made_block b.label rs b.end))) (end_again s t b.end q e)

block_again : (s t : Scope) (b : BlockTree) (r : BlockRecord) → AreGiven b.values → block_of s b ≡ Ok r → Renames s t → block_of t (block_tree t.names r) ≡ Ok r
block_again s t b r g h q =
    let i = block_is s b r h in
    subst (λ c. block_of t (block_tree t.names c) ≡ Ok c) i.made (block_made_again s t b r.values g i.preds i.values i.end q)

abbrev pub AllGiven : List BlockTree → Type 0
AllGiven bs = AllByRecursion (λ (b : BlockTree). AreGiven b.values) bs

abbrev pub Blocks : Scope → List BlockTree → List BlockRecord → Type 0
Blocks s bs rs = AllZip (λ b r. block_of s b ≡ Ok r) bs rs

blocks_again : (s t : Scope) (bs : List BlockTree) (rs : List BlockRecord) → AllGiven bs → Blocks s bs rs → Renames s t → each (block_of t) (map (block_tree t.names) rs) ≡ Ok rs
unfolding each
blocks_again s t [] [] g z q = refl
blocks_again s t [] (r ∷ rs) g z q = absurd z
blocks_again s t (b ∷ bs) [] g z q = absurd z
blocks_again s t (b ∷ bs) (r ∷ rs) g z q =
    both_more (block_of t (block_tree t.names r)) (each (block_of t) (map (block_tree t.names) rs)) r rs (block_again s t b r g.0 z.0 q) (blocks_again s t bs rs g.1 z.1 q)

-- Functions.

abbrev id_of : ValueTree → ℕ
id_of v = v.id

pub values_numbered : (s : Scope) (names : List (List ℕ)) (vs : List ValueTree) (rs : List ValueRecord) → Values s vs rs → map id_of (map (value_tree names) rs) ≡ map id_of vs
values_numbered s names [] [] z = refl
values_numbered s names [] (r ∷ rs) z = absurd z
values_numbered s names (v ∷ vs) [] z = absurd z
values_numbered s names (v ∷ vs) (r ∷ rs) z =
    ap (λ n. n ∷ map id_of (map (value_tree names) rs)) (sym (ap (λ (r : ValueRecord). r.id) (value_is s v r z.0).made)) ∙ ap (λ ns. v.id ∷ ns) (values_numbered s names vs rs z.1)

pub all_numbered : (s : Scope) (names : List (List ℕ)) (bs : List BlockTree) (rs : List BlockRecord) → Blocks s bs rs → value_ids (map (block_tree names) rs) ≡ value_ids bs
all_numbered s names [] [] z = refl
all_numbered s names [] (r ∷ rs) z = absurd z
all_numbered s names (b ∷ bs) [] z = absurd z
all_numbered s names (b ∷ bs) (r ∷ rs) z =
    let i = block_is s b r z.0 in
    ap (λ ns. ns ++ value_ids (map (block_tree names) rs)) (values_numbered s names b.values r.values (each_is (value_of s) b.values r.values i.values)) ∙ ap (λ ns. map id_of b.values ++ ns) (all_numbered s names bs rs z.1)

pub blocks_numbered : (s : Scope) (names : List (List ℕ)) (bs : List BlockTree) (rs : List BlockRecord) → Blocks s bs rs → block_ids (map (block_tree names) rs) ≡ block_ids bs
blocks_numbered s names [] [] z = refl
blocks_numbered s names [] (r ∷ rs) z = absurd z
blocks_numbered s names (b ∷ bs) [] z = absurd z
blocks_numbered s names (b ∷ bs) (r ∷ rs) z =
    ap (λ n. n ∷ block_ids (map (block_tree names) rs)) (sym (ap (λ (r : BlockRecord). r.id) (block_is s b r z.0).made)) ∙ ap (λ ns. b.label.id ∷ ns) (blocks_numbered s names bs rs z.1)

-- the tree of what is printed of a function
abbrev pub printed_func : List (List ℕ) → FuncRecord → FuncTree
printed_func names g = declared_func g.name (header_tree names g) (map (block_tree names) g.blocks)

abbrev types_of : HeaderTree → List Ty
types_of h = map (λ p. p.ty) h.parameters

names_counted : (ps : List ParameterTree) → length (map (λ p. p.name) ps) ≡ length ps
names_counted [] = refl
names_counted (p ∷ ps) = ap suc (names_counted ps)

types_counted : (ps : List ParameterTree) → length (map (λ p. p.ty) ps) ≡ length ps
types_counted [] = refl
types_counted (p ∷ ps) = ap suc (types_counted ps)

same_length : (h : HeaderTree) (ts : List Ty) → ts ≡ types_of h → length (parameter_names h) ≡ length ts
same_length h ts e = names_counted h.parameters ∙ sym (types_counted h.parameters) ∙ sym (ap length e)

abbrev sig_of : List Ty → List Ty → SigRecord
sig_of args results = record { args = args; results = results }

abbrev func_record : ℕ → SigRecord → List BlockRecord → ℕ → FuncRecord
func_record n s bs given = record { name = n; sig = s; blocks = bs; given = given }

-- the scopes of a function and of what is printed of it
scopes : (names : List (List ℕ)) (n : ℕ) (h : HeaderTree) (bs : List BlockTree) (g : FuncRecord) → length names < 4294967294 → length h.parameters ≤ 64 → IsFunc names (declared_func n h bs) g → Renames (scope_of names (declared_func n h bs)) (scope_of names (printed_func names g))
scopes names n h bs g few small i =
    let s = scope_of names (declared_func n h bs) in
    let zip = each_is (block_of s) bs g.blocks i.blocks in
    let args : g.sig.args ≡ types_of h = ap (λ (x : SigRecord). x.args) i.sig in
    record {
      names = refl;
      few = few;
      parameters = parameters_named 0 g.sig.args ∙ ap (arguments 0) (sym (same_length h g.sig.args args));
      small = omega (arith, small, names_counted h.parameters);
      values = all_numbered s names bs g.blocks zip;
      blocks = blocks_numbered s names bs g.blocks zip;
    }

pub func_again : (names : List (List ℕ)) (n : ℕ) (h : HeaderTree) (bs : List BlockTree) (g : FuncRecord) → length names < 4294967294 → length h.parameters ≤ 64 → AllGiven bs → IsFunc names (declared_func n h bs) g
    → func_of names (printed_func names g) ≡ Ok g
unfolding func_of
func_again names n h bs g few small given i =
    let s = scope_of names (declared_func n h bs) in
    let t = scope_of names (printed_func names g) in
    let r = scopes names n h bs g few small i in
    let zip = each_is (block_of s) bs g.blocks i.blocks in
    ap (λ q. q >>= λ rs. Ok (func_record g.name (printed_func names g).sig rs (length (printed_func names g).value_ids))) (blocks_again s t bs g.blocks given zip r)
    ∙ ap (λ ts. Ok (func_record g.name (sig_of ts g.sig.results) g.blocks (length (printed_func names g).value_ids))) (parameters_typed 0 g.sig.args)
    ∙ ap (λ k. Ok (func_record g.name g.sig g.blocks k)) (ap length r.values ∙ sym i.given)
