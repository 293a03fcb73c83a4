-- What names name.
use Rattle.std.proofs.Common.{◌≡◌, ◌∙◌, sym, ℕ, ◌<◌, ◌==◌, true, false, get_or, length, Some, None, Option, List, [], ◌∷◌, map, ◌+◌, ◌↔◌, nat_lt, cond, refl, ap, ⊎_elim}
use Rattle.std.specs.List.{count_by, find, flat_map, slice_get, sum_by}
use Rattle.std.specs.Option.{is_some}
use Rattle.std.proofs.lemmas.List.Sums.{sum_by-cons, sum_by-append}
use Rattle.bk_form.proofs.Lists.{find_position}
use Rattle.std.proofs.lemmas.Bool.{cases_lt, lt-ltb, le-ltb, eqb-true, eq-eqb, false≢true}
use Rattle.std.proofs.lemmas.List.{get_or_past}
use Rattle.std.proofs.lemmas.List.Folds.{Any-from_list_any, list_any-from_Any, fold-map}
use Rattle.bk_func.specs.Records.{ValueRecord, BlockRecord, FuncRecord, PackageRecord}
use Rattle.bk_func.specs.Form.Parts.{IsBlockNumber, IsValueNumber}
use Rattle.bk_func.specs.Form.Signatures.{IsVariable}
use Rattle.bk_form.specs.declared.names.Names.{Names}
use Rattle.bk_form.specs.declared.numbers.Numbers.{Numbers}
use Rattle.bk_form.specs.Names.{AreNames}
use Rattle.bk_form.specs.Numbers.{block_ids, value_ids, block_named, value_named, sole, NumbersOf}
use Rattle.bk_form.proofs.Bearers.{sole_is, sole_from}

pub variable : (p : PackageRecord) (n : Names) (s : ℕ) → AreNames p n → get_or n.vars.items s false ≡ true → IsVariable p s
variable p n s a e =
    let within : s < length p.names = ⊎_elim (λ (l : s < length p.names). l)
    (λ g. absurd (false≢true (sym (get_or_past n.vars.items s false (rw a.vars g)) ∙ e))) (cases_lt s (length p.names)) in
    let (k, v, m, f, q) = Any-from_list_any (λ v. v.name == s) p.vars (sym (a.var s within) ∙ e) in
    (within, (v, (k, m, f), eqb-true v.name s q))

pub is_variable : (p : PackageRecord) (n : Names) (s : ℕ) → AreNames p n → IsVariable p s → get_or n.vars.items s false ≡ true
is_variable p n s a (within, (v, (k, m, f), q)) =
    a.var s within ∙ list_any-from_Any (λ v. v.name == s) p.vars (k, v, m, f, eq-eqb v.name s q)

-- the function at the noted place is the first with the name
pub func_at : (p : PackageRecord) (n : Names) (s k : ℕ) → AreNames p n → get_or n.funcs.items s None ≡ Some k
    → slice_get p.funcs k ≡ cond (nat_lt s (length p.names)) (find (λ g. g.name == s) p.funcs) None
func_at p n s k a e = ⊎_elim
    (λ (l : s < length p.names). rw (lt-ltb s (length p.names) l, find_position (λ (g : FuncRecord). g.name == s) p.funcs, ← (a.func s l), e) refl)
    (λ g. cc (sym (get_or_past n.funcs.items s None (rw a.funcs g)) ∙ e))
    (cases_lt s (length p.names))

pub no_func : (p : PackageRecord) (n : Names) (s : ℕ) → AreNames p n → get_or n.funcs.items s None ≡ None
    → None ≡ cond (nat_lt s (length p.names)) (find (λ g. g.name == s) p.funcs) None
no_func p n s a e = ⊎_elim
    (λ (l : s < length p.names). rw (lt-ltb s (length p.names) l, find_position (λ (g : FuncRecord). g.name == s) p.funcs, ← (a.func s l), e) refl)
    (λ g. rw (le-ltb s (length p.names) g) refl)
    (cases_lt s (length p.names))

-- the numbers of blocks and values, counted in a list or one by one
pub block_count : (f : FuncRecord) (n : ℕ) → count_by (λ x. x == n) (block_ids f) ≡ count_by (λ b. b.id == n) f.blocks
block_count f n = fold-map (λ c x. c + cond (x == n) 1 0) (λ (b : BlockRecord). b.id) 0 f.blocks

pub value_count : (bs : List BlockRecord) (n : ℕ)
    → count_by (λ x. x == n) (flat_map (λ b. map (λ v. v.id) b.values) bs) ≡ sum_by (λ b. count_by (λ v. v.id == n) b.values) bs
value_count [] n = refl
value_count (b ∷ bs) n =
    sum_by-append (λ x. cond (x == n) 1 0) (map (λ v. v.id) b.values) (flat_map (λ c. map (λ v. v.id) c.values) bs)
    ∙ (rw (fold-map (λ c x. c + cond (x == n) 1 0) (λ (v : ValueRecord). v.id) 0 b.values, value_count bs n)
    (sym (sum_by-cons (λ (b : BlockRecord). count_by (λ v. v.id == n) b.values) b bs)))

one_named : (ns : List ℕ) (n : ℕ) → (is_some (sole ns n) ≡ true) ↔ (count_by (λ x. x == n) ns ≡ 1)
one_named ns n = (one (sole ns n) refl, λ e. ap is_some (sole_from ns n e).1)
  where
    one : (o : Option ℕ) → sole ns n ≡ o → is_some o ≡ true → count_by (λ x. x == n) ns ≡ 1
    one None e t = absurd (false≢true t)
    one (Some p) e t = (sole_is ns n p e).0

pub block_number : (f : FuncRecord) (m : Numbers) (n : ℕ) → NumbersOf f m → (is_some (block_named m n) ≡ true) ↔ IsBlockNumber f n
unfolding IsBlockNumber
block_number f m n a =
    let (to, from) = one_named (block_ids f) n in
    ((λ t. sym (block_count f n) ∙ to (rw (a.block n) at t)), (λ e. ap is_some (a.block n) ∙ from (block_count f n ∙ e)))

pub value_number : (f : FuncRecord) (m : Numbers) (n : ℕ) → NumbersOf f m → (is_some (value_named m n) ≡ true) ↔ IsValueNumber f n
unfolding IsValueNumber
value_number f m n a =
    let (to, from) = one_named (value_ids f) n in
    ((λ t. sym (value_count f.blocks n) ∙ to (rw (a.value n) at t)), (λ e. ap is_some (a.value n) ∙ from (value_count f.blocks n ∙ e)))
