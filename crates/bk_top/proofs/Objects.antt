-- What is told of a package without an object is a refusal of the command that asks for it.
use Rattle.std.proofs.Common.{◌≡◌, ℕ, List, Result, Ok, Err}
use Rattle.std.specs.Prelude.{IfOk, IfErr}
use Rattle.bk_func.specs.Records.{PackageRecord}
use Rattle.bk_rule.specs.declared.trees.Rule.{Rule}
use Rattle.bk_top.specs.declared.refusal.Refusal.{Refusal}
use Rattle.bk_top.specs.declared.refusal.Refusal.TheVariants.{Words, ReadFault, TooLong, ExtraTooLong, RuleSyntax, RuleOp, Syntax, Limit, Duplicate, Undefined, FormFault, Functions, Text, Object, Function, Arguments, WriteFault, Memory}
use Rattle.bk_top.specs.Commands.{CompileRecord, compile_row}
use Rattle.bk_top.specs.Answer.{IsObjectRefusal, Spoils}
use Rattle.bk_top.specs.Package.{ReadsAs}

pub if_ok : {A E : Type 0} (P Q : A → Type 0) (r : Result A E) → ((x : A) → P x → Q x) → IfOk r P → IfOk r Q
if_ok P Q (Ok x) h p = h x p
if_ok P Q (Err e) h p = tt

pub if_err : {A E : Type 0} (P Q : E → Type 0) (r : Result A E) → ((e : E) → P e → Q e) → IfErr r P → IfErr r Q
if_err P Q (Ok x) h p = tt
if_err P Q (Err e) h p = h e p

pub spoils : (p : PackageRecord) (r : CompileRecord) (rules : List Rule) (text : List ℕ) → ReadsAs text r.target (Ok p) → (refusal : Refusal) → IsObjectRefusal p r.target rules refusal
    → Spoils (compile_row r) rules text refusal
spoils p r rules text read Words h = absurd h
spoils p r rules text read ReadFault h = absurd h
spoils p r rules text read TooLong h = absurd h
spoils p r rules text read ExtraTooLong h = absurd h
spoils p r rules text read (RuleSyntax n) h = absurd h
spoils p r rules text read (RuleOp n) h = absurd h
spoils p r rules text read (Syntax n) h = absurd h
spoils p r rules text read (Limit which n) h = absurd h
spoils p r rules text read (Duplicate n) h = absurd h
spoils p r rules text read (Undefined name) h = absurd h
spoils p r rules text read (FormFault func kind place) h = absurd h
spoils p r rules text read (Functions refused) h = (p, read, h)
spoils p r rules text read (Text n) h = (p, read, h)
spoils p r rules text read (Object e) h = absurd h
spoils p r rules text read Function h = absurd h
spoils p r rules text read Arguments h = absurd h
spoils p r rules text read WriteFault h = absurd h
spoils p r rules text read Memory h = tt
