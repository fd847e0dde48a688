-- Statements with no parts: what is live before them, that no loop is in them, and the one row for them.
use Rattle.std.proofs.Common.{◌≡◌, ℕ, ℤ, List, [], ◌∷◌, ◌⊎◌, inl, inr, reverse, sym, ap, subst, ◌∙◌}
use Rattle.br_words.specs.declared.operation.BinOp.{BinOp}
use Rattle.br_words.specs.declared.size.Size.{Size}
use Rattle.br_flatimp.specs.declared.program.Operand.{Operand}
use Rattle.br_flatimp.specs.declared.program.Stmt.{Stmt}
use Rattle.br_flatimp.specs.declared.program.Stmt.TheOpen.{Stmt-F}
use Rattle.br_flatimp.specs.declared.program.Stmt.TheVariants.{Lit, Copy, Op, Load, Store, Table, Call, Read, Write}
use Rattle.br_flatimp.specs.declared.program.Stmt.TheVariants.{rolls-Lit, rolls-Copy, rolls-Op, rolls-Load, rolls-Store}
use Rattle.br_flatimp.specs.declared.program.Stmt.TheVariants.{rolls-Table, rolls-Call, rolls-Read, rolls-Write}
use Rattle.br_flatimp.specs.declared.program.Stmt.TheFolds.{fold-roll-Stmt}
use Rattle.br_flatimp.specs.Values.{Names}
use Rattle.br_flatimp.specs.Liveness.{is_in, union, without, Live, live_step, live, before}
use Rattle.br_flatimp.specs.Parts.{own_read, own_written}
use Rattle.br_live.specs.Tables.{rows_after}
use Rattle.br_live.specs.Turns.{turns_of}
use Rattle.br_live.proofs.Own.{plain-lit, plain-copy, plain-op, plain-load, plain-store}
use Rattle.br_live.proofs.Own.{plain-table, plain-call, plain-read, plain-write}
use Rattle.br_live.proofs.Turns.{turns-lit, turns-copy, turns-op, turns-load, turns-store}
use Rattle.br_live.proofs.Turns.{turns-table, turns-call, turns-read, turns-write}
use Rattle.br_live.proofs.Rows.{row_with}

abbrev pub IsPlain : Stmt → Type 0
IsPlain s =
    ((a : ℕ) × (b : ℕ) × (s ≡ Lit a b))
    ⊎ (((a : ℕ) × (b : ℕ) × (s ≡ Copy a b))
    ⊎ (((a : ℕ) × (b : BinOp) × (c : ℕ) × (d : Operand) × (s ≡ Op a b c d))
    ⊎ (((a : ℕ) × (b : Size) × (c : ℕ) × (d : ℤ) × (s ≡ Load a b c d))
    ⊎ (((a : Size) × (b : ℕ) × (c : ℕ) × (d : ℤ) × (s ≡ Store a b c d))
    ⊎ (((a : ℕ) × (b : Size) × (c : List ℕ) × (d : ℕ) × (s ≡ Table a b c d))
    ⊎ (((a : List ℕ) × (b : ℕ) × (c : List ℕ) × (s ≡ Call a b c))
    ⊎ (((a : ℕ) × (b : ℕ) × (s ≡ Read a b))
    ⊎ (((a : ℕ) × (b : ℕ) × (s ≡ Write a b))))))))))

pub record Plain (s : Stmt) : Type 0 where
  pub hands : (after : Names) → union (without after (own_written s)) (is_in (own_read s)) ≡ before s after
  pub turns : (b : ℕ) → turns_of b s ≡ []
  pub sets : (b : ℕ) (a : Names) → reverse (rows_after b ((live s).moments a)) ≡ row_with b a ∷ []

pub plain : (s : Stmt) → IsPlain s → Plain s
plain s (inl e) = subst Plain (sym e.2) (record {
  hands = plain-lit e.0 e.1;
  turns = λ b. turns-lit b e.0 e.1;
  sets = λ b a. ap (λ (l : Live). reverse (rows_after b (l.moments a)))
      (ap live (sym (rolls-Lit e.0 e.1)) ∙ fold-roll-Stmt Live live_step (Stmt-F.Lit e.0 e.1));
})
plain s (inr (inl e)) = subst Plain (sym e.2) (record {
  hands = plain-copy e.0 e.1;
  turns = λ b. turns-copy b e.0 e.1;
  sets = λ b a. ap (λ (l : Live). reverse (rows_after b (l.moments a)))
      (ap live (sym (rolls-Copy e.0 e.1)) ∙ fold-roll-Stmt Live live_step (Stmt-F.Copy e.0 e.1));
})
plain s (inr (inr (inl e))) = subst Plain (sym e.4) (record {
  hands = plain-op e.0 e.1 e.2 e.3;
  turns = λ b. turns-op b e.0 e.1 e.2 e.3;
  sets = λ b a. ap (λ (l : Live). reverse (rows_after b (l.moments a)))
      (ap live (sym (rolls-Op e.0 e.1 e.2 e.3)) ∙ fold-roll-Stmt Live live_step (Stmt-F.Op e.0 e.1 e.2 e.3));
})
plain s (inr (inr (inr (inl e)))) = subst Plain (sym e.4) (record {
  hands = plain-load e.0 e.1 e.2 e.3;
  turns = λ b. turns-load b e.0 e.1 e.2 e.3;
  sets = λ b a. ap (λ (l : Live). reverse (rows_after b (l.moments a)))
      (ap live (sym (rolls-Load e.0 e.1 e.2 e.3)) ∙ fold-roll-Stmt Live live_step (Stmt-F.Load e.0 e.1 e.2 e.3));
})
plain s (inr (inr (inr (inr (inl e))))) = subst Plain (sym e.4) (record {
  hands = plain-store e.0 e.1 e.2 e.3;
  turns = λ b. turns-store b e.0 e.1 e.2 e.3;
  sets = λ b a. ap (λ (l : Live). reverse (rows_after b (l.moments a)))
      (ap live (sym (rolls-Store e.0 e.1 e.2 e.3)) ∙ fold-roll-Stmt Live live_step (Stmt-F.Store e.0 e.1 e.2 e.3));
})
plain s (inr (inr (inr (inr (inr (inl e)))))) = subst Plain (sym e.4) (record {
  hands = plain-table e.0 e.1 e.2 e.3;
  turns = λ b. turns-table b e.0 e.1 e.2 e.3;
  sets = λ b a. ap (λ (l : Live). reverse (rows_after b (l.moments a)))
      (ap live (sym (rolls-Table e.0 e.1 e.2 e.3)) ∙ fold-roll-Stmt Live live_step (Stmt-F.Table e.0 e.1 e.2 e.3));
})
plain s (inr (inr (inr (inr (inr (inr (inl e))))))) = subst Plain (sym e.3) (record {
  hands = plain-call e.0 e.1 e.2;
  turns = λ b. turns-call b e.0 e.1 e.2;
  sets = λ b a. ap (λ (l : Live). reverse (rows_after b (l.moments a)))
      (ap live (sym (rolls-Call e.0 e.1 e.2)) ∙ fold-roll-Stmt Live live_step (Stmt-F.Call e.0 e.1 e.2));
})
plain s (inr (inr (inr (inr (inr (inr (inr (inl e)))))))) = subst Plain (sym e.2) (record {
  hands = plain-read e.0 e.1;
  turns = λ b. turns-read b e.0 e.1;
  sets = λ b a. ap (λ (l : Live). reverse (rows_after b (l.moments a)))
      (ap live (sym (rolls-Read e.0 e.1)) ∙ fold-roll-Stmt Live live_step (Stmt-F.Read e.0 e.1));
})
plain s (inr (inr (inr (inr (inr (inr (inr (inr e)))))))) = subst Plain (sym e.2) (record {
  hands = plain-write e.0 e.1;
  turns = λ b. turns-write b e.0 e.1;
  sets = λ b a. ap (λ (l : Live). reverse (rows_after b (l.moments a)))
      (ap live (sym (rolls-Write e.0 e.1)) ∙ fold-roll-Stmt Live live_step (Stmt-F.Write e.0 e.1));
})
