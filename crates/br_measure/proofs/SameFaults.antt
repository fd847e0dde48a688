-- The faults of names are those of the syntax: one stands in a program exactly where the other does.
use Rattle.std.proofs.Common.{◌≡◌, ℕ, Bool, true, false, cond, eqb, List, [], ◌∷◌, ◌++◌, Option, Some, None, is_some}
use Rattle.std.proofs.Common.{length, map, refl, sym, ap, subst, ◌∙◌, codes}
use Rattle.std.specs.Str.{bytes_eq}
use Rattle.br_syntax.specs.declared.program.Cmd.{Cmd, roll-Cmd}
use Rattle.br_syntax.specs.declared.program.Cmd.TheOpen.{Cmd-F}
use Rattle.br_syntax.specs.declared.program.Cmd.TheFolds.{map-Cmd, fold-roll-Cmd, ind-Cmd}
use Rattle.br_syntax.specs.declared.program.Func.{Func}
use Rattle.br_syntax.specs.Functions.{function_named}
use Rattle.br_syntax.specs.NameFaults as names
use Rattle.br_measure.specs.declared.faults.NameFault.{NameFault}
use Rattle.br_measure.specs.declared.faults.NameFault.TheVariants.{DuplicateFunction, UnknownFunction, WrongArguments}
use Rattle.br_measure.specs.declared.faults.NameFault.TheVariants.{WrongResults, UnknownAction}
use Rattle.br_measure.specs.Names.{count_faults, call_faults, action_faults, joined, faults_step, command_faults}
use Rattle.br_measure.specs.Names.{commands_faults, duplicates_after, name_faults}

-- the same fault
abbrev pub told : names.NameFault → NameFault
told (names.DuplicateFunction at) = DuplicateFunction at
told (names.UnknownFunction at) = UnknownFunction at
told (names.WrongArguments at) = WrongArguments at
told (names.WrongResults at) = WrongResults at
told (names.UnknownAction at) = UnknownAction at

abbrev counts_of : ℕ → ℕ → ℕ → ℕ → ℕ → List names.NameFault
counts_of = names.count_faults names.NameFault names.DuplicateFunction names.UnknownFunction names.WrongArguments
    names.WrongResults names.UnknownAction

abbrev step_of : List Func → Cmd-F (List names.NameFault) → List names.NameFault
step_of = names.faults_step names.NameFault names.DuplicateFunction names.UnknownFunction names.WrongArguments
    names.WrongResults names.UnknownAction

abbrev command_of : List Func → Cmd → List names.NameFault
command_of = names.command_faults names.NameFault names.DuplicateFunction names.UnknownFunction names.WrongArguments
    names.WrongResults names.UnknownAction

abbrev joined_of : List (List names.NameFault) → List names.NameFault
joined_of = names.joined_faults names.NameFault names.DuplicateFunction names.UnknownFunction names.WrongArguments
    names.WrongResults names.UnknownAction

told_append : (xs ys : List names.NameFault) → map told (xs ++ ys) ≡ map told xs ++ map told ys
told_append [] ys = refl
told_append (x ∷ xs) ys = ap (λ zs. told x ∷ zs) (told_append xs ys)

told_both : (xs ys : List names.NameFault) (fs gs : List NameFault) → fs ≡ map told xs → gs ≡ map told ys → fs ++ gs
    ≡ map told (xs ++ ys)
told_both xs ys fs gs e f = rw (e, f) (sym (told_append xs ys))

chosen : (b : Bool) (xs ys : List names.NameFault) (fs gs : List NameFault) → fs ≡ map told xs → gs ≡ map told ys
    → cond b fs gs ≡ map told (cond b xs ys)
chosen true xs ys fs gs e f = e
chosen false xs ys fs gs e f = f

counts_same : (at args outs given_args given_outs : ℕ) → count_faults at args outs given_args given_outs
    ≡ map told (counts_of at args outs given_args given_outs)
counts_same at args outs given_args given_outs =
    told_both (cond (eqb given_args args) [] (names.WrongArguments at ∷ []))
    (cond (eqb given_outs outs) [] (names.WrongResults at ∷ []))
    (cond (eqb given_args args) [] (WrongArguments at ∷ [])) (cond (eqb given_outs outs) [] (WrongResults at ∷ []))
    (chosen (eqb given_args args) [] (names.WrongArguments at ∷ []) [] (WrongArguments at ∷ []) refl refl)
    (chosen (eqb given_outs outs) [] (names.WrongResults at ∷ []) [] (WrongResults at ∷ []) refl refl)

call_same : (at args outs : ℕ) (callee : Option Func) → call_faults at args outs callee
    ≡ map told
    (names.call_faults names.NameFault names.DuplicateFunction names.UnknownFunction names.WrongArguments
    names.WrongResults names.UnknownAction at args outs callee)
call_same at args outs None = refl
call_same at args outs (Some f) = counts_same at (length f.args) (length f.results) args outs

action_same : (at args outs : ℕ) (name : List ℕ) → action_faults at args outs name
    ≡ map told
    (names.action_faults names.NameFault names.DuplicateFunction names.UnknownFunction names.WrongArguments
    names.WrongResults names.UnknownAction at args outs name)
action_same at args outs name =
    chosen (bytes_eq name (codes "MMIOREAD")) (counts_of at 1 1 args outs)
    (cond (bytes_eq name (codes "MMIOWRITE")) (counts_of at 2 0 args outs) (names.UnknownAction at ∷ []))
    (count_faults at 1 1 args outs)
    (cond (bytes_eq name (codes "MMIOWRITE")) (count_faults at 2 0 args outs) (UnknownAction at ∷ []))
    (counts_same at 1 1 args outs)
    (chosen (bytes_eq name (codes "MMIOWRITE")) (counts_of at 2 0 args outs) (names.UnknownAction at ∷ [])
    (count_faults at 2 0 args outs) (UnknownAction at ∷ [])
    (counts_same at 2 0 args outs) refl)

module _ (fs : List Func) where
  abbrev Same : Cmd → Type 0
  Same c = command_faults fs c ≡ map told (command_of fs c)

  abbrev With : Type 0
  With = (c : Cmd) × Same c

  abbrev layer : Cmd-F With → Cmd-F Cmd
  layer = map-Cmd With Cmd (λ e. e.0)

  each_same : (cs : List With) → joined (map (command_faults fs) (map (λ (e : With). e.0) cs))
      ≡ map told (joined_of (map (command_of fs) (map (λ (e : With). e.0) cs)))
  each_same [] = refl
  each_same (e ∷ cs) = told_both (command_of fs e.0) (joined_of (map (command_of fs) (map (λ (e : With). e.0) cs)))
      (command_faults fs e.0) (joined (map (command_faults fs) (map (λ (e : With). e.0) cs))) e.1 (each_same cs)

  step_same : (y : Cmd-F With) → faults_step fs (map-Cmd Cmd (List NameFault) (command_faults fs) (layer y))
      ≡ map told (step_of fs (map-Cmd Cmd (List names.NameFault) (command_of fs) (layer y)))
  step_same Cmd-F.Skip = refl
  step_same (Cmd-F.Set x e) = refl
  step_same (Cmd-F.Unset x) = refl
  step_same (Cmd-F.Store size a e) = refl
  step_same (Cmd-F.Stackalloc x n body) = each_same body
  step_same (Cmd-F.If e first second) =
      told_both (joined_of (map (command_of fs) (map (λ (e : With). e.0) first)))
      (joined_of (map (command_of fs) (map (λ (e : With). e.0) second)))
      (joined (map (command_faults fs) (map (λ (e : With). e.0) first)))
      (joined (map (command_faults fs) (map (λ (e : With). e.0) second)))
      (each_same first) (each_same second)
  step_same (Cmd-F.While e body) = each_same body
  step_same (Cmd-F.Seq body) = each_same body
  step_same (Cmd-F.Call at outs callee args) = call_same at (length args) (length outs) (function_named fs callee)
  step_same (Cmd-F.Interact at outs name args) = action_same at (length args) (length outs) name

  rolled_same : (y : Cmd-F With) → Same (roll-Cmd (layer y))
  rolled_same y = fold-roll-Cmd (List NameFault) (faults_step fs) (layer y) ∙ step_same y
      ∙ ap (map told) (sym (fold-roll-Cmd (List names.NameFault) (step_of fs) (layer y)))

  command_same : (c : Cmd) → Same c
  command_same = ind-Cmd Same (λ x y is. subst (λ z. Same (roll-Cmd z)) is (rolled_same y))

  abbrev body_of : List Cmd → List names.NameFault
  body_of = names.commands_faults names.NameFault names.DuplicateFunction names.UnknownFunction names.WrongArguments
      names.WrongResults names.UnknownAction fs

  commands_same : (cs : List Cmd) → commands_faults fs cs ≡ map told (body_of cs)
  commands_same [] = refl
  commands_same (c ∷ cs) = told_both (command_of fs c) (body_of cs) (command_faults fs c) (commands_faults fs cs)
      (command_same c) (commands_same cs)

  bodies_same : (gs : List Func) → joined (map (λ f. commands_faults fs f.body) gs)
      ≡ map told (joined_of (map (λ f. body_of f.body) gs))
  bodies_same [] = refl
  bodies_same (g ∷ gs) = told_both (body_of g.body) (joined_of (map (λ f. body_of f.body) gs))
      (commands_faults fs g.body) (joined (map (λ f. commands_faults fs f.body) gs)) (commands_same g.body)
      (bodies_same gs)

abbrev duplicates_of : List Func → List Func → List names.NameFault
duplicates_of = names.duplicates_after names.NameFault names.DuplicateFunction names.UnknownFunction
    names.WrongArguments names.WrongResults names.UnknownAction

duplicates_same : (earlier fs : List Func) → duplicates_after earlier fs ≡ map told (duplicates_of earlier fs)
duplicates_same earlier [] = refl
duplicates_same earlier (f ∷ fs) =
    let b = is_some (function_named earlier f.name) in
    told_both (cond b (names.DuplicateFunction f.at ∷ []) []) (duplicates_of (earlier ++ f ∷ []) fs)
    (cond b (DuplicateFunction f.at ∷ []) []) (duplicates_after (earlier ++ f ∷ []) fs)
    (chosen b (names.DuplicateFunction f.at ∷ []) [] (DuplicateFunction f.at ∷ []) [] refl refl)
    (duplicates_same (earlier ++ f ∷ []) fs)

pub faults_same : (fs : List Func) → name_faults fs ≡ map told (names.name_faults fs)
faults_same fs =
    told_both (duplicates_of [] fs) (joined_of (map (λ f. body_of fs f.body) fs)) (duplicates_after [] fs)
    (joined (map (λ f. commands_faults fs f.body) fs))
    (duplicates_same [] fs) (bodies_same fs fs)

none_told : (xs : List names.NameFault) → map told xs ≡ [] → xs ≡ []
none_told [] e = refl
none_told (x ∷ xs) e = cc

pub no_name_fault : (fs : List Func) → name_faults fs ≡ [] → names.HasNoNameFault fs
no_name_fault fs none = none_told (names.name_faults fs) (sym (faults_same fs) ∙ none)

pub no_fault_stands : (fs : List Func) → names.HasNoNameFault fs → name_faults fs ≡ []
no_fault_stands fs none = faults_same fs ∙ ap (map told) none
