-- The count that decides on growth is the count of values of the function in words.
use Rattle.std.proofs.Common.{◌≡◌, ◌∙◌, sym, ap, refl, ℕ, suc, ◌+◌, ◌-◌, ◌≤◌, Bool, true, false, cond, not, List, [], ◌∷◌, ◌++◌, length, take, filter, flat_map, sum_by, fold, Option, Some, None, nat_lt, ⊎_elim, arith}
use Rattle.std.proofs.lemmas.Bool.{cases_eq, eq-eqb, ne_eqb, ltb-false}
use Rattle.std.proofs.lemmas.List.{length-append}
use Rattle.std.proofs.lemmas.List.Concat.{flat_map-cons}
use Rattle.std.proofs.lemmas.List.Sums.{sum_by-cons, sum_by-append}
use Rattle.bk_ops.specs.declared.family.Family.{Family}
use Rattle.bk_ops.specs.declared.types.Target.{Target}
use Rattle.bk_ops.specs.declared.types.Ty.{Ty}
use Rattle.bk_func.specs.Records.{ValueRecord, BlockRecord, FuncRecord, PackageRecord}
use Rattle.bk_func.specs.Edits.{greatest_value}
use Rattle.bk_func.specs.Limits.{most_values_made}
use Rattle.bk_func.specs.Words.{register_words}
use Rattle.bk_calls.specs.declared.role.Role.{Role}
use Rattle.bk_calls.specs.declared.role.Role.TheVariants.{Argument, Call, Selection, Results, Other}
use Rattle.bk_calls.specs.Areas.{numbered, made_for, made_in, is_end, stays, area_values, area_block, plan_of, areas_of}
use Rattle.bk_calls.specs.Arguments.{is_named, arg_regs, arguments_of, in_entry, with_arguments, first_made}
use Rattle.bk_calls.specs.Budget.{value_count, grown_by, counted, count_next, count_after}
use Rattle.bk_calls.specs.Chains.{WordPlan, role, queued_by, made_by, chain, chained, turned}
use Rattle.bk_calls.proofs.Entry.{entry_stays, regs_stay, regs_make_none, none_named}

-- lengths

chain_length : (o : Family) (n w m : ℕ) (xs : List ℕ) → length (chain o n w m xs) ≡ length xs
chain_length o n w m [] = refl
chain_length o n w m (x ∷ xs) = ap suc (chain_length o (n + 1) (w + 1) n xs)

made_length : (r : Role) (p : WordPlan) (n : ℕ) (v : ValueRecord) → length (made_by r p n v) ≡ length (queued_by p.registers r v)
made_length Argument p n v = refl
made_length Call p n v = chain_length _ n p.registers _ _
made_length Selection p n v = refl
made_length Results p n v = chain_length _ n (p.own + p.registers) _ _
made_length Other p n v = refl

numbered_length : {A B : Type 0} (change : ℕ → A → B) (takes : A → ℕ) (n : ℕ) (xs : List A) → length (numbered change takes n xs) ≡ length xs
unfolding numbered
numbered_length change takes n [] = refl
numbered_length change takes n (x ∷ xs) = ap suc (numbered_length change takes (n + takes x) xs)

listed_length : {A B : Type 0} (make : ℕ → A → List B) (takes : A → ℕ) → ((n : ℕ) (x : A) → length (make n x) ≡ takes x)
    → (n : ℕ) (xs : List A) → length (flat_map (λ ws. ws) (numbered make takes n xs)) ≡ sum_by takes xs
unfolding numbered
listed_length make takes h n [] = refl
listed_length make takes h n (x ∷ xs) =
    let rest = numbered make takes (n + takes x) xs in
    ap length (flat_map-cons (λ ws. ws) (make n x) rest) ∙ (length-append (make n x) (flat_map (λ ws. ws) rest)
    ∙ (ap (λ k. k + length (flat_map (λ ws. ws) rest)) (h n x) ∙ (ap (λ k. takes x + k) (listed_length make takes h (n + takes x) xs) ∙ sym (sum_by-cons takes x xs))))

-- the count of the values of a block afterwards
afterwards : ℕ → List ValueRecord → ℕ
afterwards r vs = length (filter stays vs) + sum_by (made_for r) (filter stays vs)

-- that of a block
afterwards_in : ℕ → BlockRecord → ℕ
afterwards_in r b = afterwards r b.values

area_length : (p : WordPlan) (n : ℕ) (vs : List ValueRecord) → length (area_values p n (filter stays vs)) ≡ afterwards p.registers vs
unfolding afterwards
area_length p n vs =
    let ws : List ValueRecord = filter stays vs in
    length-append (numbered (turned p) (made_for p.registers) n ws) (flat_map (λ us. us) (numbered (chained p) (made_for p.registers) n ws))
    ∙ (ap (λ k. k + length (flat_map (λ us. us) (numbered (chained p) (made_for p.registers) n ws))) (numbered_length (turned p) (made_for p.registers) n ws)
    ∙ ap (λ k. length ws + k) (listed_length (chained p) (made_for p.registers) (λ n v. made_length (role v) p n v) n ws))

blocks_length : (p : WordPlan) (n : ℕ) (bs : List BlockRecord)
    → sum_by (λ (b : BlockRecord). length b.values) (numbered (area_block p) (made_in p.registers) n bs) ≡ sum_by (afterwards_in p.registers) bs
unfolding numbered afterwards_in
blocks_length p n [] = refl
blocks_length p n (b ∷ bs) =
    let rest = numbered (area_block p) (made_in p.registers) (n + made_in p.registers b) bs in
    sum_by-cons (λ (b : BlockRecord). length b.values) (area_block p n b) rest
    ∙ (ap (λ k. k + sum_by (λ (b : BlockRecord). length b.values) rest) (area_length p n b.values)
    ∙ (ap (λ k. afterwards p.registers b.values + k) (blocks_length p (n + made_in p.registers b) bs) ∙ sym (sum_by-cons (afterwards_in p.registers) b bs)))

-- the arguments in registers are counted once
entry_length : (r : ℕ) (bs : List BlockRecord) (n : ℕ) (tys : List Ty)
    → sum_by (afterwards_in r) (in_entry (arg_regs (is_named bs) 0 n tys) bs) ≡ length (arg_regs (is_named bs) 0 n tys) + sum_by (afterwards_in r) bs
unfolding afterwards_in afterwards
entry_length r [] n tys = rw (none_named 0 n tys) refl
entry_length r (b ∷ bs) n tys =
    let ws : List ValueRecord = arg_regs (is_named (b ∷ bs)) 0 n tys in
    let e = entry_stays b.values ws (regs_stay (is_named (b ∷ bs)) 0 n tys) in
    let l = ap length e ∙ length-append (filter stays b.values) ws in
    let m = ap (sum_by (made_for r)) e ∙ sum_by-append (made_for r) (filter stays b.values) ws in
    let z = regs_make_none r (is_named (b ∷ bs)) 0 n tys in
    let s = sum_by-cons (afterwards_in r) b bs in
    let t = sum_by-cons (afterwards_in r) (record b { values = b.values ++ ws }) bs in
    t ∙ joined _ _ _ _ _ _ _ _ l m z s
  where
    joined : (u v a c w k d s : ℕ) → u ≡ a + k → v ≡ c + w → w ≡ 0 → s ≡ (a + c) + d → (u + v) + d ≡ k + s
    joined u v a c w k d s h i j q = omega arith

-- one turn

some_same : (a b : ℕ) → Some a ≡ Some b → a ≡ b
some_same a b h = cc

grown_more : (k n m : ℕ) → grown_by k n ≡ Some m → m ≡ n + k
grown_more k n m h = ⊎_elim
    (λ (q : k ≡ 0). let r = some_same n m (rw (eq-eqb k 0 q) at h) in omega arith)
    (λ q. large (nat_lt most_values_made (n + k)) (rw (ne_eqb k 0 q) at h))
    (cases_eq k 0)
  where
    large : (b : Bool) → cond b None (Some (n + k)) ≡ Some m → m ≡ n + k
    large true h = absurd (cc)
    large false h = let r = some_same (n + k) m h in omega arith

-- how many values stand for a value
gain : ℕ → ValueRecord → ℕ
gain r v = cond (stays v) (1 + made_for r v) 0

one_turn : (r : ℕ) (v : ValueRecord) (k m : ℕ) → counted r v (k + 1) ≡ Some m → m ≡ k + gain r v
unfolding gain
one_turn r v k m h = turn (is_end v) h
  where
    turn : (e : Bool) → cond e (Some ((k + 1) - 1)) (grown_by (made_for r v) (k + 1)) ≡ Some m → m ≡ k + cond (not e) (1 + made_for r v) 0
    turn true h = let q = some_same ((k + 1) - 1) m h in omega arith
    turn false h = let q = grown_more (made_for r v) (k + 1) m h in omega (arith, q)

afterwards-cons : (r : ℕ) (v : ValueRecord) (vs : List ValueRecord) → afterwards r (v ∷ vs) ≡ gain r v + afterwards r vs
unfolding afterwards gain
afterwards-cons r v vs = one (stays v)
  where
    one : (b : Bool) → length (cond b (v ∷ filter stays vs) (filter stays vs)) + sum_by (made_for r) (cond b (v ∷ filter stays vs) (filter stays vs))
        ≡ cond b (1 + made_for r v) 0 + (length (filter stays vs) + sum_by (made_for r) (filter stays vs))
    one true = let s = sum_by-cons (made_for r) v (filter stays vs) in omega (arith, s)
    one false = omega arith

-- the turns of a block's values

none_values : (r : ℕ) (vs : List ValueRecord) → fold (count_next r) None vs ≡ None
none_values r [] = refl
none_values r (v ∷ vs) = none_values r vs

after_turn : (r : ℕ) (v : ValueRecord) (vs : List ValueRecord) (k m : ℕ) (o : Option ℕ) → counted r v ((k + length vs) + 1) ≡ o
    → fold (count_next r) o vs ≡ Some m → ((j : ℕ) → fold (count_next r) (Some (j + length vs)) vs ≡ Some m → m ≡ j + afterwards r vs)
    → m ≡ k + afterwards r (v ∷ vs)
after_turn r v vs k m None q h ih = absurd (let n = none_values r vs in cc)
after_turn r v vs k m (Some x) q h ih =
    let g = one_turn r v (k + length vs) x q in
    let e : (k + gain r v) + length vs ≡ x = omega arith in
    let i = ih (k + gain r v) (ap (λ y. fold (count_next r) (Some y) vs) e ∙ h) in
    let a = afterwards-cons r v vs in
    omega arith

values_counted : (r : ℕ) (vs : List ValueRecord) (k m : ℕ) → fold (count_next r) (Some (k + length vs)) vs ≡ Some m → m ≡ k + afterwards r vs
unfolding afterwards
values_counted r [] k m h = let q = some_same (k + 0) m h in omega arith
values_counted r (v ∷ vs) k m h =
    let e : (k + length vs) + 1 ≡ k + suc (length vs) = omega arith in
    after_turn r v vs k m (counted r v ((k + length vs) + 1)) refl (ap (λ x. fold (count_next r) (counted r v x) vs) e ∙ h) (λ j. values_counted r vs j m)

-- the turns of all blocks

abbrev in_block : ℕ → Option ℕ → BlockRecord → Option ℕ
in_block r o b = fold (count_next r) o b.values

none_blocks : (r : ℕ) (bs : List BlockRecord) → fold (in_block r) None bs ≡ None
none_blocks r [] = refl
none_blocks r (b ∷ bs) = ap (λ o. fold (in_block r) o bs) (none_values r b.values) ∙ none_blocks r bs

after_block : (r : ℕ) (b : BlockRecord) (bs : List BlockRecord) (k s m : ℕ) (o : Option ℕ)
    → fold (count_next r) (Some ((k + s) + length b.values)) b.values ≡ o → fold (in_block r) o bs ≡ Some m
    → ((j : ℕ) → fold (in_block r) (Some (j + s)) bs ≡ Some m → m ≡ j + sum_by (afterwards_in r) bs) → m ≡ k + sum_by (afterwards_in r) (b ∷ bs)
unfolding afterwards_in
after_block r b bs k s m None q h ih = absurd (let n = none_blocks r bs in cc)
after_block r b bs k s m (Some x) q h ih =
    let g = values_counted r b.values (k + s) x q in
    let e : (k + afterwards r b.values) + s ≡ x = omega arith in
    let i = ih (k + afterwards r b.values) (ap (λ y. fold (in_block r) (Some y) bs) e ∙ h) in
    let a = sum_by-cons (afterwards_in r) b bs in
    omega (arith, i, a)

blocks_counted : (r : ℕ) (bs : List BlockRecord) (k m : ℕ) → fold (in_block r) (Some (k + sum_by (λ (b : BlockRecord). length b.values) bs)) bs ≡ Some m
    → m ≡ k + sum_by (afterwards_in r) bs
blocks_counted r [] k m h = let q = some_same (k + 0) m h in omega arith
blocks_counted r (b ∷ bs) k m h =
    let s : ℕ = sum_by (λ (b : BlockRecord). length b.values) bs in
    let c = sum_by-cons (λ (b : BlockRecord). length b.values) b bs in
    let e : (k + s) + length b.values ≡ k + sum_by (λ (b : BlockRecord). length b.values) (b ∷ bs) = omega (arith, c) in
    after_block r b bs k s m (fold (count_next r) (Some ((k + s) + length b.values)) b.values) refl
    (ap (λ x. fold (in_block r) (fold (count_next r) (Some x) b.values) bs) e ∙ h) (λ j. blocks_counted r bs j m)

pub words_counted : (p : PackageRecord) (t : Target) (f : FuncRecord) (n : ℕ) → count_after t f ≡ Some n → value_count (areas_of p t f) ≡ n
words_counted p t f n h = after (grown_by (length (arguments_of t f)) (value_count f)) refl h
  where
    after : (o : Option ℕ) → grown_by (length (arguments_of t f)) (value_count f) ≡ o → fold (in_block (register_words t)) o f.blocks ≡ Some n
        → value_count (areas_of p t f) ≡ n
    after None q h = absurd (let z = none_blocks (register_words t) f.blocks in cc)
    after (Some x) q h =
        let g = grown_more (length (arguments_of t f)) (value_count f) x q in
        let z : x ≡ length (arguments_of t f) + value_count f = omega (arith, g) in
        let c = blocks_counted (register_words t) f.blocks (length (arguments_of t f)) n (ap (λ y. fold (in_block (register_words t)) (Some y) f.blocks) (sym z) ∙ h) in
        let l = blocks_length (plan_of p t f) (first_made t f) (with_arguments t f).blocks in
        let e = entry_length (register_words t) f.blocks (greatest_value f + 1) (take (register_words t) f.sig.args) in
        l ∙ (e ∙ sym c)

-- a function within the limit stays within it

grown_bound : (k n m : ℕ) → n ≤ most_values_made → grown_by k n ≡ Some m → m ≤ most_values_made
grown_bound k n m l h = ⊎_elim
    (λ (q : k ≡ 0). let r = some_same n m (rw (eq-eqb k 0 q) at h) in omega arith)
    (λ q. large (nat_lt most_values_made (n + k)) refl (rw (ne_eqb k 0 q) at h))
    (cases_eq k 0)
  where
    large : (b : Bool) → b ≡ nat_lt most_values_made (n + k) → cond b None (Some (n + k)) ≡ Some m → m ≤ most_values_made
    large true t h = absurd (cc)
    large false t h = let r = some_same (n + k) m h in let g = ltb-false most_values_made (n + k) (sym t) in omega arith

turn_bound : (r : ℕ) (v : ValueRecord) (n m : ℕ) → n ≤ most_values_made → counted r v n ≡ Some m → m ≤ most_values_made
turn_bound r v n m l h = turn (is_end v) h
  where
    turn : (e : Bool) → cond e (Some (n - 1)) (grown_by (made_for r v) n) ≡ Some m → m ≤ most_values_made
    turn true h = let q = some_same (n - 1) m h in omega arith
    turn false h = grown_bound (made_for r v) n m l h

bound_after : (r : ℕ) (vs : List ValueRecord) (m : ℕ) (now o : Option ℕ) → now ≡ o → ((x : ℕ) → now ≡ Some x → x ≤ most_values_made)
    → fold (count_next r) o vs ≡ Some m → ((x : ℕ) → x ≤ most_values_made → fold (count_next r) (Some x) vs ≡ Some m → m ≤ most_values_made)
    → m ≤ most_values_made
bound_after r vs m now None q l h ih = absurd (let z = none_values r vs in cc)
bound_after r vs m now (Some x) q l h ih = ih x (l x q) h

values_bound : (r : ℕ) (vs : List ValueRecord) (n m : ℕ) → n ≤ most_values_made → fold (count_next r) (Some n) vs ≡ Some m → m ≤ most_values_made
values_bound r [] n m l h = let q = some_same n m h in omega arith
values_bound r (v ∷ vs) n m l h = bound_after r vs m (counted r v n) (counted r v n) refl (λ x. turn_bound r v n x l) h (λ x. values_bound r vs x m)

bound_after_block : (r : ℕ) (bs : List BlockRecord) (m : ℕ) (now o : Option ℕ) → now ≡ o → ((x : ℕ) → now ≡ Some x → x ≤ most_values_made)
    → fold (in_block r) o bs ≡ Some m → ((x : ℕ) → x ≤ most_values_made → fold (in_block r) (Some x) bs ≡ Some m → m ≤ most_values_made)
    → m ≤ most_values_made
bound_after_block r bs m now None q l h ih = absurd (let z = none_blocks r bs in cc)
bound_after_block r bs m now (Some x) q l h ih = ih x (l x q) h

blocks_bound : (r : ℕ) (bs : List BlockRecord) (n m : ℕ) → n ≤ most_values_made → fold (in_block r) (Some n) bs ≡ Some m → m ≤ most_values_made
blocks_bound r [] n m l h = let q = some_same n m h in omega arith
blocks_bound r (b ∷ bs) n m l h =
    let now : Option ℕ = fold (count_next r) (Some n) b.values in
    bound_after_block r bs m now now refl (λ x. values_bound r b.values n x l) h (λ x. blocks_bound r bs x m)

pub words_bounded : (t : Target) (f : FuncRecord) (n : ℕ) → value_count f ≤ most_values_made → count_after t f ≡ Some n → n ≤ most_values_made
words_bounded t f n l h =
    let now : Option ℕ = grown_by (length (arguments_of t f)) (value_count f) in
    bound_after_block (register_words t) f.blocks n now now refl (λ x. grown_bound (length (arguments_of t f)) (value_count f) x l) h
    (λ x. blocks_bound (register_words t) f.blocks x n)
