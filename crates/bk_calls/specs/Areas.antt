-- A function after its arguments, results and calls went to words.
--
-- The words of a signature are its arguments, then its results, one word each, two for 64 bits on arm.
use Rattle.std.specs.Prelude.{◌≡◌, ℕ, ◌+◌, ◌==◌, Bool, false, not, ◌&&◌, nat_le, List, [], ◌∷◌, ◌++◌, length, filter, find, flat_map, sum_by, Option, Some, None, option_map, unwrap_or}
use Rattle.bk_ops.specs.declared.types.Target.{Target}
use Rattle.bk_ops.specs.declared.types.Ty.{Ty}
use Rattle.bk_func.specs.Records.{ValueRecord, BlockRecord, FuncRecord, SigRecord, PackageRecord}
use Rattle.bk_func.specs.Words.{count_words, register_words}
use Rattle.bk_func.specs.Form.Signatures.{sig_of}
use Rattle.bk_calls.specs.declared.role.Role.TheVariants.{Other}
use Rattle.bk_calls.specs.Arguments.{arguments_of, argument_number, with_arguments, first_made}
use Rattle.bk_calls.specs.Chains.{WordPlan, role, is_call, is_results, last, queued, chained, turned, result_key}

-- elements, each changed under a number: the first under n, each other under the number after those that the ones before
-- it take
unfoldable pub numbered : {A B : Type 0} → (ℕ → A → B) → (A → ℕ) → ℕ → List A → List B
numbered change takes n [] = []
numbered change takes n (x ∷ xs) = change n x ∷ numbered change takes (n + takes x) xs

-- how many values are made for a value where r registers hold the first words
abbrev pub made_for : ℕ → ValueRecord → ℕ
made_for r v = length (queued r v)

-- the value ends a function without results
abbrev pub is_end : ValueRecord → Bool
is_end v = is_results (role v) && nat_le (length v.args) 1

abbrev pub stays : ValueRecord → Bool
stays v = not (is_end v)

-- the values of a block in their places, where the made ones are numbered from n on and stand last
abbrev pub area_values : WordPlan → ℕ → List ValueRecord → List ValueRecord
area_values p n vs =
    numbered (turned p) (made_for p.registers) n vs ++ flat_map (λ ws. ws) (numbered (chained p) (made_for p.registers) n vs)

abbrev pub area_control : WordPlan → Option ℕ → Option ℕ
area_control p None = None
area_control p (Some c) = Some (unwrap_or (p.ends c) c)

abbrev pub area_block : WordPlan → ℕ → BlockRecord → BlockRecord
area_block p n b = record b { control = area_control p b.control; values = area_values p n (filter stays b.values) }

abbrev pub made_in : ℕ → BlockRecord → ℕ
made_in r b = sum_by (made_for r) (filter stays b.values)

-- the types of a callee's arguments
abbrev pub args_of : Option SigRecord → List Ty
args_of None = []
args_of (Some g) = g.args

-- the first word of a call's results is behind those of its arguments
abbrev pub result_word : PackageRecord → Target → ValueRecord → ℕ
result_word p t v = count_words t (args_of (sig_of p v.aux))

abbrev pub call_named : List ValueRecord → ℕ → Option ValueRecord
call_named vs n = find (λ v. is_call (role v) && v.id == n) vs

abbrev pub end_named : List ValueRecord → ℕ → Option ValueRecord
end_named vs n = find (λ v. is_end v && v.id == n) vs

-- the first value that is this result, of a call and at a place
abbrev pub is_key : Option (ℕ × ℕ) → ℕ × ℕ → Bool
is_key None k = false
is_key (Some x) k = x.0 == k.0 && x.1 == k.1

abbrev pub result_named : ℕ → List ValueRecord → ℕ × ℕ → Option ValueRecord
result_named r vs k = find (λ v. is_key (result_key r v) k) vs

-- which words the calls of blocks, and a function with arguments of these types, have, where these values stand for the
-- arguments in registers
abbrev pub plan_in : PackageRecord → Target → List BlockRecord → List Ty → List ValueRecord → WordPlan
plan_in p t bs args ws =
    let vs = flat_map (λ b. b.values) bs in record {
      registers = register_words t;
      arguments = λ i. unwrap_or (argument_number ws i) 0;
      results = λ n. unwrap_or (option_map (result_word p t) (call_named vs n)) 0;
      firsts = λ k. unwrap_or (option_map (λ v. v.id) (result_named (register_words t) vs k)) 0;
      ends = λ n. option_map (λ v. last v.args) (end_named vs n);
      own = count_words t args;
    }

abbrev pub plan_of : PackageRecord → Target → FuncRecord → WordPlan
plan_of p t f = plan_in p t f.blocks f.sig.args (arguments_of t f)

-- the function in words; the made values are numbered from the greatest number upwards, the arguments in registers first
abbrev pub areas_of : PackageRecord → Target → FuncRecord → FuncRecord
areas_of p t f = record f {
  blocks = numbered (area_block (plan_of p t f)) (made_in (register_words t)) (first_made t f) (with_arguments t f).blocks;
}

-- the value is no argument, call, selection or result of a signature
abbrev pub IsNoCall : ValueRecord → Type 0
IsNoCall v = role v ≡ Other
