-- Plans of words that say the same.
use Rattle.std.proofs.Common.{◌≡◌, ◌∙◌, ap, ℕ, ◌≤◌, List, flat_map, Option, arith}
use Rattle.std.specs.Option.{option_map, unwrap_or}
use Rattle.std.proofs.Math.Path.{fun_ext}
use Rattle.bk_ops.specs.declared.types.Target.{Target}
use Rattle.bk_ops.specs.declared.types.Target.TheVariants.{Arm, Riscv64}
use Rattle.bk_ops.specs.declared.types.Ty.{Ty}
use Rattle.bk_func.specs.Records.{ValueRecord, BlockRecord, FuncRecord, PackageRecord}
use Rattle.bk_func.specs.Words.{count_words, register_words}
use Rattle.bk_calls.specs.Areas.{call_named, end_named, result_named, result_word, plan_of}
use Rattle.bk_calls.specs.Arguments.{argument_number, arguments_of}
use Rattle.bk_calls.specs.Chains.{WordPlan, last}

pub few_registers : (t : Target) → register_words t ≤ 8
few_registers Arm = omega arith
few_registers Riscv64 = omega arith

pub same_plan : (p q : WordPlan) → p.registers ≡ q.registers → ((i : ℕ) → p.arguments i ≡ q.arguments i) → ((n : ℕ) → p.results n ≡ q.results n)
    → ((k : ℕ × ℕ) → p.firsts k ≡ q.firsts k) → ((n : ℕ) → p.ends n ≡ q.ends n) → p.own ≡ q.own → p ≡ q
same_plan p q registers arguments results firsts ends own =
    let plan : ℕ → (ℕ → ℕ) → (ℕ → ℕ) → (ℕ × ℕ → ℕ) → (ℕ → Option ℕ) → ℕ → WordPlan =
    λ g a r s e o. record { registers = g; arguments = a; results = r; firsts = s; ends = e; own = o } in
    ap (λ (g : ℕ). plan g p.arguments p.results p.firsts p.ends p.own) registers
    ∙ (ap (λ (a : ℕ → ℕ). plan q.registers a p.results p.firsts p.ends p.own) (fun_ext arguments)
    ∙ (ap (λ (r : ℕ → ℕ). plan q.registers q.arguments r p.firsts p.ends p.own) (fun_ext results)
    ∙ (ap (λ (s : ℕ × ℕ → ℕ). plan q.registers q.arguments q.results s p.ends p.own) (fun_ext firsts)
    ∙ (ap (λ (e : ℕ → Option ℕ). plan q.registers q.arguments q.results q.firsts e p.own) (fun_ext ends)
    ∙ ap (λ (o : ℕ). plan q.registers q.arguments q.results q.firsts q.ends o) own))))

-- a plan whose tables say this of a function's blocks
pub planned : (p : PackageRecord) (t : Target) (f : FuncRecord) (q : WordPlan) (bs cs ds : List BlockRecord) (tys : List Ty) → bs ≡ f.blocks
    → cs ≡ f.blocks → ds ≡ f.blocks → tys ≡ f.sig.args → q.registers ≡ register_words t
    → ((i : ℕ) → q.arguments i ≡ unwrap_or (argument_number (arguments_of t f) i) 0)
    → ((n : ℕ) → q.results n ≡ unwrap_or (option_map (result_word p t) (call_named (flat_map (λ b. b.values) bs) n)) 0)
    → ((k : ℕ × ℕ) → q.firsts k ≡ unwrap_or (option_map (λ v. v.id) (result_named q.registers (flat_map (λ b. b.values) cs) k)) 0)
    → ((n : ℕ) → q.ends n ≡ option_map (λ v. last v.args) (end_named (flat_map (λ b. b.values) ds) n))
    → q.own ≡ count_words t tys → q ≡ plan_of p t f
planned p t f q bs cs ds tys b c d y registers arguments results firsts ends own =
    let values : List BlockRecord → List ValueRecord = λ bs. flat_map (λ (b : BlockRecord). b.values) bs in
    let first : ℕ → ℕ × ℕ → List BlockRecord → ℕ =
    λ r k bs. unwrap_or (option_map (λ (v : ValueRecord). v.id) (result_named r (values bs) k)) 0
    in
    same_plan q (plan_of p t f) registers arguments
    (λ n. results n ∙ ap (λ (xs : List BlockRecord). unwrap_or (option_map (result_word p t) (call_named (values xs) n)) 0) b)
    (λ k. firsts k ∙ (ap (λ (r : ℕ). first r k cs) registers ∙ ap (λ (xs : List BlockRecord). first (register_words t) k xs) c))
    (λ n. ends n ∙ ap (λ (xs : List BlockRecord). option_map (λ (v : ValueRecord). last v.args) (end_named (values xs) n)) d)
    (own ∙ ap (count_words t) y)
