-- A function stands for itself, and for what the function that it stands for stands for.
use Rattle.std.proofs.Common.{ℕ, refl, subst, sym, ◌∙◌, List, [], ◌∷◌, Option, Some, None, inl, inr}
use Rattle.std.specs.List.{AllZip}
use Rattle.bk_func.specs.Records.{ValueRecord, BlockRecord, FuncRecord}
use Rattle.bk_func.specs.Edits.{block_of}
use Rattle.bk_func.specs.Numbers.{Program, Env}
use Rattle.bk_func.specs.Effects.{chain_from, order}
use Rattle.bk_func.specs.Meaning.{Outcome, first_fault}
use Rattle.bk_func.proofs.Faults.{Mild, IsWildFault}
use Rattle.bk_func.proofs.Kept.{BothBlocks}
use Rattle.bk_refine_laws.specs.Refines.{DoAlike, BlockRefines, Refines}

alike_self : (p : Program) (m : ℕ → ℕ) (us : List ValueRecord) → AllZip (DoAlike p m) us us
alike_self p m [] = tt
alike_self p m (u ∷ us) = ((refl, λ calls a w. refl), alike_self p m us)

alike_then : (p : Program) (m : ℕ → ℕ) (us vs ws : List ValueRecord) → AllZip (DoAlike p m) us vs → AllZip (DoAlike p m) vs ws → AllZip (DoAlike p m) us ws
alike_then p m [] [] [] h k = tt
alike_then p m [] [] (w ∷ ws) h k = elim k [ ]
alike_then p m [] (v ∷ vs) ws h k = elim h [ ]
alike_then p m (u ∷ us) [] ws h k = elim h [ ]
alike_then p m (u ∷ us) (v ∷ vs) [] h k = elim k [ ]
alike_then p m (u ∷ us) (v ∷ vs) (w ∷ ws) (h, hs) (k, ks) = ((h.0 ∙ k.0, λ calls a x. h.1 calls a x ∙ k.1 calls a x), alike_then p m us vs ws hs ks)

mild_then : (o u v : Option Outcome) → Mild o u → Mild u v → Mild o v
mild_then o u v (inl h) k = inl h
mild_then o u v (inr e) (inl k) = inl (subst IsWildFault (sym e) k)
mild_then o u v (inr e) (inr d) = inr (e ∙ d)

block_self : (p : Program) (f : FuncRecord) (e : Env) (m : ℕ → ℕ) (b : BlockRecord) → BlockRefines p f f m b b
block_self p f e m b = record {
  number = refl;
  kind = refl;
  preds = refl;
  succs = refl;
  control = refl;
  first = λ s. refl;
  phis = λ id place old. refl;
  chain = λ s. alike_self p m (chain_from f b s);
  faults = λ window s. inr refl;
  results = λ a. refl;
}

block_then : (p : Program) (f g h : FuncRecord) (e : Env) (m : ℕ → ℕ) (b c d : BlockRecord) → BlockRefines p f g m b c → BlockRefines p g h m c d → BlockRefines p f h m b d
block_then p f g h e m b c d x y = record {
  number = x.number ∙ y.number;
  kind = x.kind ∙ y.kind;
  preds = x.preds ∙ y.preds;
  succs = x.succs ∙ y.succs;
  control = x.control ∙ y.control;
  first = λ s. x.first s ∙ y.first s;
  phis = λ id place old. x.phis id place old ∙ y.phis id place old;
  chain = λ s. alike_then p m (chain_from f b s) (chain_from g c s) (chain_from h d s) (x.chain s) (y.chain s);
  faults = λ window s. mild_then (first_fault p.target m window (order f b s)) (first_fault p.target m window (order g c s)) (first_fault p.target m window (order h d s)) (x.faults window s) (y.faults window s);
  results = λ a. x.results a ∙ y.results a;
}

pub stands_for_itself : (p : Program) (f : FuncRecord) → Refines p f f
stands_for_itself p f = record {
  sig = refl;
  entry = refl;
  possible = λ e m h. h;
  blocks = λ e m h id. here e m (block_of f id);
}
  where
    here : (e : Env) (m : ℕ → ℕ) (o : Option BlockRecord) → BothBlocks (BlockRefines p f f m) o o
    here e m None = tt
    here e m (Some b) = block_self p f e m b

pub stands_through : (p : Program) (f g h : FuncRecord) → Refines p f g → Refines p g h → Refines p f h
stands_through p f g h x y = record {
  sig = x.sig ∙ y.sig;
  entry = x.entry ∙ y.entry;
  possible = λ e m k. x.possible e m (y.possible e m k);
  blocks = λ e m k id. both e m (block_of f id) (block_of g id) (block_of h id) (x.blocks e m (y.possible e m k) id) (y.blocks e m k id);
}
  where
    both : (e : Env) (m : ℕ → ℕ) (o u v : Option BlockRecord) → BothBlocks (BlockRefines p f g m) o u → BothBlocks (BlockRefines p g h m) u v → BothBlocks (BlockRefines p f h m) o v
    both e m None None None r s = tt
    both e m None None (Some d) r s = elim s [ ]
    both e m None (Some c) v r s = elim r [ ]
    both e m (Some b) None v r s = elim r [ ]
    both e m (Some b) (Some c) None r s = elim s [ ]
    both e m (Some b) (Some c) (Some d) r s = block_then p f g h e m b c d r s
