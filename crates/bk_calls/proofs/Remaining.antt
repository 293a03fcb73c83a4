-- No argument, call, selection or result is left in the function in words.
use Rattle.std.proofs.Common.{◌≡◌, sym, refl, subst, ℕ, ◌+◌, ◌==◌, nat_lt, cond, Bool, true, false, List, [], ◌∷◌, filter, flat_map, Option, Some, None}
use Rattle.std.specs.List.{All}
use Rattle.std.proofs.lemmas.List.Elements.{All-nil, All-cons, All-append}
use Rattle.std.proofs.lemmas.List.Concat.{flat_map-cons}
use Rattle.bk_ops.specs.declared.family.Family.{Family}
use Rattle.bk_ops.specs.declared.family.Family.TheVariants as op
use Rattle.bk_ops.specs.declared.types.Target.{Target}
use Rattle.bk_func.specs.Records.{ValueRecord, BlockRecord, FuncRecord, PackageRecord}
use Rattle.bk_func.specs.Numbers.{is_mem, place_of_arg}
use Rattle.bk_calls.specs.declared.role.Role.{Role}
use Rattle.bk_calls.specs.declared.role.Role.TheVariants.{Argument, Call, Selection, Results, Other}
use Rattle.bk_calls.specs.Areas.{numbered, made_for, made_in, stays, area_block, plan_of, areas_of, IsNoCall}
use Rattle.bk_calls.specs.Arguments.{with_arguments, first_made}
use Rattle.bk_calls.specs.Chains.{WordPlan, role, role_of, made_by, area_word, chain, chained, turned, turned_by, trap_of, given, called, picked, taken, selected, returned, result_key}

chain_words : (o : Family) → role_of o ≡ Other → (n w m : ℕ) (xs : List ℕ) → All IsNoCall (chain o n w m xs)
chain_words o e n w m [] = All-nil IsNoCall
chain_words o e n w m (x ∷ xs) = All-cons IsNoCall (area_word o n w m x) (chain o (n + 1) (w + 1) n xs) e (chain_words o e (n + 1) (w + 1) n xs)

made_words : (r : Role) (p : WordPlan) (n : ℕ) (v : ValueRecord) → All IsNoCall (made_by r p n v)
made_words Argument p n v = All-nil IsNoCall
made_words Call p n v = chain_words op.OutWord refl n p.registers _ _
made_words Selection p n v = All-nil IsNoCall
made_words Results p n v = chain_words op.RetWord refl n (p.own + p.registers) _ _
made_words Other p n v = All-nil IsNoCall

given_word : (b : Bool) (p : WordPlan) (v : ValueRecord) → IsNoCall (given b p v)
given_word true p v = refl
given_word false p v = refl

call_word : (b : Bool) → role_of (cond b op.Call op.CallRegs) ≡ Other
call_word true = refl
call_word false = refl

called_word : (o : Option ℕ) (p : WordPlan) (n : ℕ) (v : ValueRecord) → IsNoCall (called o p n v)
called_word None p n v = call_word (p.registers == 0)
called_word (Some k) p n v = refl

picked_word : (b : Bool) (x : ℕ) (v : ValueRecord) → IsNoCall (picked b x v)
picked_word true x v = refl
picked_word false x v = refl

taken_word : (o : Option (ℕ × ℕ)) (p : WordPlan) (v : ValueRecord) → IsNoCall (taken o p v)
taken_word None p v = refl
taken_word (Some k) p v = picked_word (p.firsts k == v.id) (p.firsts k) v

selected_word : (b : Bool) (p : WordPlan) (v : ValueRecord) → IsNoCall (selected b p v)
selected_word true p v = refl
selected_word false p v = taken_word (result_key p.registers v) p v

returned_word : (b : Bool) (p : WordPlan) (n : ℕ) (v : ValueRecord) → IsNoCall (returned b p n v)
returned_word true p n v = refl
returned_word false p n v = refl

turned_word : (r : Role) (p : WordPlan) (n : ℕ) (v : ValueRecord) → role v ≡ r → IsNoCall (turned_by r p n v)
turned_word Argument p n v e = given_word (nat_lt (place_of_arg v.aux) p.registers) p v
turned_word Call p n v e = called_word (trap_of v.aux) p n v
turned_word Selection p n v e = selected_word (is_mem v.ty) p v
turned_word Results p n v e = returned_word (p.registers == 0) p n v
turned_word Other p n v e = e

all_turned : (p : WordPlan) (n : ℕ) (vs : List ValueRecord) → All IsNoCall (numbered (turned p) (made_for p.registers) n vs)
unfolding numbered
all_turned p n [] = All-nil IsNoCall
all_turned p n (v ∷ vs) =
    All-cons IsNoCall (turned p n v) (numbered (turned p) (made_for p.registers) (n + made_for p.registers v) vs) (turned_word (role v) p n v refl) (all_turned p (n + made_for p.registers v) vs)

all_listed : (p : WordPlan) (n : ℕ) (vs : List ValueRecord) → All IsNoCall (flat_map (λ ws. ws) (numbered (chained p) (made_for p.registers) n vs))
unfolding numbered
all_listed p n [] = All-nil IsNoCall
all_listed p n (v ∷ vs) =
    let rest : List (List ValueRecord) = numbered (chained p) (made_for p.registers) (n + made_for p.registers v) vs in
    subst (λ (us : List ValueRecord). All IsNoCall us) (sym (flat_map-cons (λ ws. ws) (chained p n v) rest))
    (All-append IsNoCall (chained p n v) (flat_map (λ ws. ws) rest) (made_words (role v) p n v) (all_listed p (n + made_for p.registers v) vs))

all_blocks : (p : WordPlan) (n : ℕ) (bs : List BlockRecord) → All (λ (b : BlockRecord). All IsNoCall b.values) (numbered (area_block p) (made_in p.registers) n bs)
unfolding numbered
all_blocks p n [] = All-nil (λ (b : BlockRecord). All IsNoCall b.values)
all_blocks p n (b ∷ bs) =
    let vs : List ValueRecord = filter stays b.values in
    All-cons (λ (b : BlockRecord). All IsNoCall b.values) (area_block p n b) (numbered (area_block p) (made_in p.registers) (n + made_in p.registers b) bs)
    (All-append IsNoCall (numbered (turned p) (made_for p.registers) n vs) (flat_map (λ ws. ws) (numbered (chained p) (made_for p.registers) n vs)) (all_turned p n vs) (all_listed p n vs))
    (all_blocks p (n + made_in p.registers b) bs)

pub only_words : (p : PackageRecord) (t : Target) (f : FuncRecord) → All (λ (b : BlockRecord). All IsNoCall b.values) (areas_of p t f).blocks
only_words p t f = all_blocks (plan_of p t f) (first_made t f) (with_arguments t f).blocks
