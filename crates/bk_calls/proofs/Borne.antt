-- Which numbers the values of the function in words bear.
use Rattle.std.proofs.Common.{◌≡◌, ◌∙◌, sym, ap, refl, ℕ, zero, suc, ◌+◌, ◌<◌, ◌≤◌, ◌==◌, nat_lt, Bool, true, false, cond, List, [], ◌∷◌, ◌++◌, length, take, filter, flat_map, sum_by, fold, max, Option, Some, None, ⊎_elim, arith}
use Rattle.std.proofs.lemmas.Bool.{cases_eq, eq-eqb, ne_eqb}
use Rattle.std.proofs.lemmas.List.Concat.{flat_map-cons}
use Rattle.std.proofs.lemmas.List.Sums.{sum_by-cons, sum_by-append}
use Rattle.bk_ops.specs.declared.family.Family.{Family}
use Rattle.bk_ops.specs.declared.types.Target.{Target}
use Rattle.bk_ops.specs.declared.types.Ty.{Ty}
use Rattle.bk_func.specs.Records.{ValueRecord, BlockRecord, FuncRecord, PackageRecord}
use Rattle.bk_func.specs.Edits.{greatest_value}
use Rattle.bk_func.specs.Words.{register_words}
use Rattle.bk_func.specs.Numbers.{is_mem, place_of_arg}
use Rattle.bk_calls.specs.declared.role.Role.{Role}
use Rattle.bk_calls.specs.declared.role.Role.TheVariants.{Argument, Call, Selection, Results, Other}
use Rattle.bk_calls.specs.Areas.{numbered, made_for, made_in, stays, area_block, plan_of, areas_of}
use Rattle.bk_calls.specs.Arguments.{is_named, arg_reg, arg_regs, arguments_of, in_entry, with_arguments, first_made}
use Rattle.bk_calls.specs.Chains.{WordPlan, role, queued_by, made_by, area_word, chain, chained, turned, turned_by, trap_of, given, called, picked, taken, selected, returned, result_key}
use Rattle.bk_calls.proofs.Entry.{entry_stays, regs_stay, regs_make_none, none_named}
use Rattle.bk_calls.specs.Numbering.{bearers, staying_bearers, made_count}

-- how often x stands among so many numbers from n on

span : ℕ → ℕ → ℕ → ℕ
span n zero x = 0
span n (suc l) x = cond (n == x) 1 0 + span (n + 1) l x

span_below : (n l x : ℕ) → x < n → span n l x ≡ 0
unfolding span
span_below n zero x b = refl
span_below n (suc l) x b = rw (ne_eqb n x (λ q. absurd (omega arith))) (let r = span_below (n + 1) l x (omega arith) in omega (arith, r))

span_above : (n l x : ℕ) → n + l ≤ x → span n l x ≡ 0
unfolding span
span_above n zero x b = refl
span_above n (suc l) x b = rw (ne_eqb n x (λ q. absurd (omega arith))) (let r = span_above (n + 1) l x (omega arith) in omega (arith, r))

span_inside : (n l x : ℕ) → n ≤ x → x < n + l → span n l x ≡ 1
unfolding span
span_inside n zero x a b = absurd (omega arith)
span_inside n (suc l) x a b = ⊎_elim
    (λ (q : n ≡ x). rw (eq-eqb n x q) (let r = span_below (n + 1) l x (omega arith) in omega (arith, r)))
    (λ q. rw (ne_eqb n x q) (let r = span_inside (n + 1) l x (omega arith) (omega arith) in omega (arith, r)))
    (cases_eq n x)

span_add : (n a b x : ℕ) → span n (a + b) x ≡ span n a x + span (n + a) b x
unfolding span
span_add n zero b x =
    let e : zero + b ≡ b = omega arith in
    let m : n + zero ≡ n = omega arith in
    rw (e, m) (omega arith)
span_add n (suc a) b x =
    let e : suc a + b ≡ suc (a + b) = omega arith in
    let m : n + suc a ≡ (n + 1) + a = omega arith in
    let r = span_add (n + 1) a b x in
    rw (e, m) (omega (arith, r))

bears : ℕ → ValueRecord → ℕ
bears x v = cond (v.id == x) 1 0

-- values that are made

chain_borne : (o : Family) (n w m x : ℕ) (xs : List ℕ) → sum_by (bears x) (chain o n w m xs) ≡ span n (length xs) x
unfolding span bears
chain_borne o n w m x [] = refl
chain_borne o n w m x (y ∷ ys) =
    let s = sum_by-cons (bears x) (area_word o n w m y) (chain o (n + 1) (w + 1) n ys) in
    s ∙ ap (λ k. cond (n == x) 1 0 + k) (chain_borne o (n + 1) (w + 1) n x ys)

made_borne : (r : Role) (p : WordPlan) (n x : ℕ) (v : ValueRecord) → sum_by (bears x) (made_by r p n v) ≡ span n (length (queued_by p.registers r v)) x
unfolding span
made_borne Argument p n x v = refl
made_borne Call p n x v = chain_borne _ n p.registers _ x _
made_borne Selection p n x v = refl
made_borne Results p n x v = chain_borne _ n (p.own + p.registers) _ x _
made_borne Other p n x v = refl

listed_borne : (p : WordPlan) (n x : ℕ) (vs : List ValueRecord)
    → sum_by (bears x) (flat_map (λ ws. ws) (numbered (chained p) (made_for p.registers) n vs)) ≡ span n (sum_by (made_for p.registers) vs) x
unfolding numbered span
listed_borne p n x [] = refl
listed_borne p n x (v ∷ vs) =
    let rest : List (List ValueRecord) = numbered (chained p) (made_for p.registers) (n + made_for p.registers v) vs in
    let a = ap (sum_by (bears x)) (flat_map-cons (λ ws. ws) (chained p n v) rest) ∙ sum_by-append (bears x) (chained p n v) (flat_map (λ ws. ws) rest) in
    let b = made_borne (role v) p n x v in
    let r = listed_borne p (n + made_for p.registers v) x vs in
    let d = ap (λ k. span n k x) (sum_by-cons (made_for p.registers) v vs) ∙ span_add n (made_for p.registers v) (sum_by (made_for p.registers) vs) x in
    a ∙ (ap (λ k. k + sum_by (bears x) (flat_map (λ ws. ws) rest)) b ∙ (ap (λ k. span n (made_for p.registers v) x + k) r ∙ sym d))

-- values that stay keep their numbers

given_id : (b : Bool) (p : WordPlan) (v : ValueRecord) → (given b p v).id ≡ v.id
given_id true p v = refl
given_id false p v = refl

called_id : (o : Option ℕ) (p : WordPlan) (n : ℕ) (v : ValueRecord) → (called o p n v).id ≡ v.id
called_id None p n v = refl
called_id (Some k) p n v = refl

picked_id : (b : Bool) (x : ℕ) (v : ValueRecord) → (picked b x v).id ≡ v.id
picked_id true x v = refl
picked_id false x v = refl

taken_id : (o : Option (ℕ × ℕ)) (p : WordPlan) (v : ValueRecord) → (taken o p v).id ≡ v.id
taken_id None p v = refl
taken_id (Some k) p v = picked_id (p.firsts k == v.id) (p.firsts k) v

selected_id : (b : Bool) (p : WordPlan) (v : ValueRecord) → (selected b p v).id ≡ v.id
selected_id true p v = refl
selected_id false p v = taken_id (result_key p.registers v) p v

returned_id : (b : Bool) (p : WordPlan) (n : ℕ) (v : ValueRecord) → (returned b p n v).id ≡ v.id
returned_id true p n v = refl
returned_id false p n v = refl

turned_id : (r : Role) (p : WordPlan) (n : ℕ) (v : ValueRecord) → (turned_by r p n v).id ≡ v.id
turned_id Argument p n v = given_id (nat_lt (place_of_arg v.aux) p.registers) p v
turned_id Call p n v = called_id (trap_of v.aux) p n v
turned_id Selection p n v = selected_id (is_mem v.ty) p v
turned_id Results p n v = returned_id (p.registers == 0) p n v
turned_id Other p n v = refl

turned_borne : (p : WordPlan) (n x : ℕ) (vs : List ValueRecord) → sum_by (bears x) (numbered (turned p) (made_for p.registers) n vs) ≡ sum_by (bears x) vs
unfolding numbered bears
turned_borne p n x [] = refl
turned_borne p n x (v ∷ vs) =
    let rest : List ValueRecord = numbered (turned p) (made_for p.registers) (n + made_for p.registers v) vs in
    sum_by-cons (bears x) (turned p n v) rest
    ∙ (ap (λ (i : ℕ). cond (i == x) 1 0 + sum_by (bears x) rest) (turned_id (role v) p n v)
    ∙ (ap (λ k. bears x v + k) (turned_borne p (n + made_for p.registers v) x vs) ∙ sym (sum_by-cons (bears x) v vs)))

-- blocks

staying_in : ℕ → BlockRecord → ℕ
staying_in x b = sum_by (bears x) (filter stays b.values)

borne_in : ℕ → BlockRecord → ℕ
borne_in x b = sum_by (bears x) b.values

block_borne : (p : WordPlan) (n x : ℕ) (b : BlockRecord) → borne_in x (area_block p n b) ≡ staying_in x b + span n (made_in p.registers b) x
unfolding staying_in borne_in
block_borne p n x b =
    let ws : List ValueRecord = filter stays b.values in
    sum_by-append (bears x) (numbered (turned p) (made_for p.registers) n ws) (flat_map (λ us. us) (numbered (chained p) (made_for p.registers) n ws))
    ∙ (ap (λ k. k + sum_by (bears x) (flat_map (λ us. us) (numbered (chained p) (made_for p.registers) n ws))) (turned_borne p n x ws)
    ∙ ap (λ k. sum_by (bears x) ws + k) (listed_borne p n x ws))

blocks_borne : (p : WordPlan) (n x : ℕ) (bs : List BlockRecord)
    → sum_by (borne_in x) (numbered (area_block p) (made_in p.registers) n bs) ≡ sum_by (staying_in x) bs + span n (sum_by (made_in p.registers) bs) x
unfolding numbered span
blocks_borne p n x [] = refl
blocks_borne p n x (b ∷ bs) =
    let rest : List BlockRecord = numbered (area_block p) (made_in p.registers) (n + made_in p.registers b) bs in
    let a = sum_by-cons (borne_in x) (area_block p n b) rest in
    let k = block_borne p n x b in
    let r = blocks_borne p (n + made_in p.registers b) x bs in
    let s = sum_by-cons (staying_in x) b bs in
    let d = ap (λ k. span n k x) (sum_by-cons (made_in p.registers) b bs) ∙ span_add n (made_in p.registers b) (sum_by (made_in p.registers) bs) x in
    a ∙ joined _ _ _ _ _ _ _ _ k r s d
  where
    joined : (u u' c l c' l' s l'' : ℕ) → u ≡ c + l → u' ≡ c' + l' → s ≡ c + c' → l'' ≡ l + l' → u + u' ≡ s + l''
    joined u u' c l c' l' s l'' h i j k = omega arith

-- arguments in registers

regs_borne : (named : ℕ → Bool) (i n x : ℕ) (tys : List Ty) → sum_by (bears x) (arg_regs named i n tys) ≡ span n (length (arg_regs named i n tys)) x
unfolding span bears
regs_borne named i n x [] = refl
regs_borne named i n x (ty ∷ tys) = one (named i) (regs_borne named (i + 1) (n + 1) x tys) (regs_borne named (i + 1) n x tys)
  where
    one : (b : Bool) → sum_by (bears x) (arg_regs named (i + 1) (n + 1) tys) ≡ span (n + 1) (length (arg_regs named (i + 1) (n + 1) tys)) x
        → sum_by (bears x) (arg_regs named (i + 1) n tys) ≡ span n (length (arg_regs named (i + 1) n tys)) x
        → sum_by (bears x) (cond b (arg_reg n ty i ∷ arg_regs named (i + 1) (n + 1) tys) (arg_regs named (i + 1) n tys))
        ≡ span n (length (cond b (arg_reg n ty i ∷ arg_regs named (i + 1) (n + 1) tys) (arg_regs named (i + 1) n tys))) x
    one true more less = sum_by-cons (bears x) (arg_reg n ty i) (arg_regs named (i + 1) (n + 1) tys) ∙ ap (λ k. cond (n == x) 1 0 + k) more
    one false more less = less

entry_borne : (bs : List BlockRecord) (n x : ℕ) (tys : List Ty)
    → sum_by (staying_in x) (in_entry (arg_regs (is_named bs) 0 n tys) bs) ≡ sum_by (staying_in x) bs + span n (length (arg_regs (is_named bs) 0 n tys)) x
unfolding staying_in span
entry_borne [] n x tys = rw (none_named 0 n tys) refl
entry_borne (b ∷ bs) n x tys =
    let ws : List ValueRecord = arg_regs (is_named (b ∷ bs)) 0 n tys in
    let e = ap (sum_by (bears x)) (entry_stays b.values ws (regs_stay (is_named (b ∷ bs)) 0 n tys)) ∙ sum_by-append (bears x) (filter stays b.values) ws in
    let r = regs_borne (is_named (b ∷ bs)) 0 n x tys in
    let s = sum_by-cons (staying_in x) b bs in
    let t = sum_by-cons (staying_in x) (record b { values = b.values ++ ws }) bs in
    t ∙ joined _ _ _ _ _ _ e r s
  where
    joined : (u a w l c s : ℕ) → u ≡ a + w → w ≡ l → s ≡ a + c → u + c ≡ s + l
    joined u a w l c s h i j = omega arith

entry_makes : (r : ℕ) (bs : List BlockRecord) (n : ℕ) (tys : List Ty)
    → sum_by (made_in r) (in_entry (arg_regs (is_named bs) 0 n tys) bs) ≡ sum_by (made_in r) bs
entry_makes r [] n tys = refl
entry_makes r (b ∷ bs) n tys =
    let ws : List ValueRecord = arg_regs (is_named (b ∷ bs)) 0 n tys in
    let e = ap (sum_by (made_for r)) (entry_stays b.values ws (regs_stay (is_named (b ∷ bs)) 0 n tys)) ∙ sum_by-append (made_for r) (filter stays b.values) ws in
    let z = regs_make_none r (is_named (b ∷ bs)) 0 n tys in
    let s = sum_by-cons (made_in r) b bs in
    let t = sum_by-cons (made_in r) (record b { values = b.values ++ ws }) bs in
    t ∙ joined _ _ _ _ _ e z s
  where
    joined : (u a w c s : ℕ) → u ≡ a + w → w ≡ 0 → s ≡ a + c → u + c ≡ s
    joined u a w c s h i j = omega arith

all_borne : (p : PackageRecord) (t : Target) (f : FuncRecord) (x : ℕ) → bearers (areas_of p t f) x ≡ staying_bearers f x + span (greatest_value f + 1) (made_count t f) x
unfolding bears staying_in borne_in
all_borne p t f x =
    let n : ℕ = greatest_value f + 1 in
    let tys : List Ty = take (register_words t) f.sig.args in
    let k : ℕ = length (arguments_of t f) in
    let m : ℕ = sum_by (made_in (register_words t)) f.blocks in
    let a = blocks_borne (plan_of p t f) (first_made t f) x (with_arguments t f).blocks in
    let e = entry_borne f.blocks n x tys in
    let g = ap (λ j. span (n + k) j x) (entry_makes (register_words t) f.blocks n tys) in
    let s = span_add n k m x in
    joined _ _ _ _ _ _ _ a e g s
  where
    joined : (u c l c' s l' w : ℕ) → u ≡ c + l → c ≡ c' + s → l ≡ l' → w ≡ s + l' → u ≡ c' + w
    joined u c l c' s l' w h i j k = omega arith

-- no value bears a number above the greatest

none_above : (vs : List ValueRecord) (g x : ℕ) → fold (λ g v. max g v.id) g vs < x → (g < x) × (sum_by (bears x) (filter stays vs) ≡ 0)
unfolding bears
none_above [] g x l = (l, refl)
none_above (v ∷ vs) g x l =
    let (b, z) = none_above vs (max g v.id) x l in
    (omega arith, kept (stays v) b z)
  where
    kept : (b : Bool) → max g v.id < x → sum_by (bears x) (filter stays vs) ≡ 0 → sum_by (bears x) (cond b (v ∷ filter stays vs) (filter stays vs)) ≡ 0
    kept true b z = sum_by-cons (bears x) v (filter stays vs) ∙ (rw (ne_eqb v.id x (λ q. absurd (omega arith)), z) refl)
    kept false b z = z

none_above_all : (bs : List BlockRecord) (g x : ℕ) → fold (λ g b. fold (λ g v. max g v.id) g b.values) g bs < x → (g < x) × (sum_by (staying_in x) bs ≡ 0)
unfolding staying_in
none_above_all [] g x l = (l, refl)
none_above_all (b ∷ bs) g x l =
    let (m, z) = none_above_all bs (fold (λ g v. max g v.id) g b.values) x l in
    let (k, y) = none_above b.values g x m in
    (k, sum_by-cons (staying_in x) b bs ∙ (rw (y, z) refl))

none_staying : (f : FuncRecord) (x : ℕ) → greatest_value f < x → staying_bearers f x ≡ 0
unfolding bears staying_in
none_staying f x l = (none_above_all f.blocks 0 x l).1

pub old_numbers : (p : PackageRecord) (t : Target) (f : FuncRecord) (n : ℕ) → n ≤ greatest_value f → bearers (areas_of p t f) n ≡ staying_bearers f n
old_numbers p t f n l =
    let a = all_borne p t f n in
    let s = span_below (greatest_value f + 1) (made_count t f) n (omega arith) in
    omega (arith, a, s)

pub new_numbers : (p : PackageRecord) (t : Target) (f : FuncRecord) (n : ℕ) → greatest_value f < n → n ≤ greatest_value f + made_count t f
    → bearers (areas_of p t f) n ≡ 1
new_numbers p t f n l h =
    let a = all_borne p t f n in
    let z = none_staying f n l in
    let s = span_inside (greatest_value f + 1) (made_count t f) n (omega arith) (omega arith) in
    omega (arith, a, s, z)

pub no_numbers : (p : PackageRecord) (t : Target) (f : FuncRecord) (n : ℕ) → greatest_value f + made_count t f < n → bearers (areas_of p t f) n ≡ 0
no_numbers p t f n h =
    let a = all_borne p t f n in
    let z = none_staying f n (omega arith) in
    let s = span_above (greatest_value f + 1) (made_count t f) n (omega arith) in
    omega (arith, a, s, z)
