-- The sizes of the statements of commands, in which no name is at fault and each limit is kept.
use Rattle.std.proofs.Common.{◌≡◌, ℕ, suc, ◌+◌, ◌-◌, ◌%◌, ◌≤◌, ◌==◌, ◌&&◌, ◌||◌, not, max, Bool, true}
use Rattle.std.proofs.Common.{false, if◌then◌else◌, List, [], ◌∷◌, ◌++◌, map, sum, length, Option}
use Rattle.std.proofs.Common.{Some, None, refl, sym, ap, subst, ◌∙◌, arith, codes, slice_get, nat_le}
use Rattle.std.specs.List.{list_all, list_any, sum_by}
use Rattle.std.specs.Str.{bytes_eq}
use Rattle.std.proofs.lemmas.List.{append-nil, length-append, length-map, map-append}
use Rattle.std.proofs.lemmas.List.Sums.{sum-map, sum_by-cons}
use Rattle.std.proofs.lemmas.Bool.Decides.{Decides-eqb}
use Rattle.std.proofs.lemmas.Slice.Eq.{bytes_eq-Decides}
use Rattle.br_words.specs.declared.size.Size.{Size}
use Rattle.br_syntax.specs.declared.program.Expr.{Expr}
use Rattle.br_syntax.specs.declared.program.Cmd.{Cmd, map-Cmd}
use Rattle.br_syntax.specs.declared.program.Cmd.TheOpen.{Cmd-F}
use Rattle.br_syntax.specs.declared.program.Cmd.TheViews.{roll-Cmd}
use Rattle.br_syntax.specs.declared.program.Cmd.TheFolds.{fold-Cmd, fold-roll-Cmd, ind-Cmd}
use Rattle.br_syntax.specs.declared.program.Func.{Func}
use Rattle.br_syntax.specs.Functions.{function_named}
use Rattle.br_syntax.specs.NameFaults.{NameFault, DuplicateFunction, UnknownFunction, WrongArguments}
use Rattle.br_syntax.specs.NameFaults.{WrongResults, UnknownAction, count_faults, call_faults, action_faults}
use Rattle.br_syntax.specs.Shape as shape
use Rattle.br_syntax.specs.Shape.{is_shaped_command, is_buffer_size, are_names, are_arguments}
use Rattle.br_source_meaning.specs.Values.{Name}
use Rattle.br_measure.specs.Bulk as bulk
use Rattle.br_measure.specs.Bulk.{expression_bulk, expressions_bulk, command_bulk}
use Rattle.br_measure.specs.Measure as measure
use Rattle.br_measure.specs.Measure.{nested_step}
use Rattle.br_measure.specs.Paths as paths
use Rattle.br_measure.specs.Paths.{callees_step}
use Rattle.br_flatimp.specs.declared.program.Stmt.{Stmt}
use Rattle.br_flatimp.specs.declared.program.Stmt.TheOpen.{Stmt-F}
use Rattle.br_flatimp.specs.declared.program.Stmt.TheViews.{roll-Stmt}
use Rattle.br_flatimp.specs.declared.program.FlatFunc.{FlatFunc}
use Rattle.br_flatimp.specs.WellFormed.{counts_fit, values_fit}
use Rattle.br_flatimp.specs.WellFormed as fit
use Rattle.br_flatten.specs.Flatten.{above, number, is_listed, lists_names, lists_expression}
use Rattle.br_flatten.specs.Flatten.{lists_expressions, lists_command_step, lists_command, place, code}
use Rattle.br_flatten.specs.Flatten.{codes_of, places_of, branches, expression, joined, read_statements}
use Rattle.br_flatten.specs.Flatten.{write_statements, device_statements, callee_number, command_step, command}
use Rattle.br_flatten.specs.Scope.{Scope, temporaries}
use Rattle.br_flatten.specs.Places.{all_of, expression_variables, expressions_variables}
use Rattle.br_flatten.specs.Places.{command_variables_step, command_variables}
use Rattle.br_flatten.proofs.LeastAbove.{above-append}
use Rattle.br_flatten.proofs.Numbers.{and-first, and-second, number-below, number-same}
use Rattle.br_flatten.proofs.Fine.{Fine, fine-none, fine-append, fine-within}
use Rattle.br_flatten.proofs.Fine.{fine-one, fine-if, fine-loop, fine-stackalloc}
use Rattle.br_flatten.proofs.ExpressionSizes.{Coded, coded, expression_sized, operands}
use Rattle.br_flatten.proofs.Commands.{faults, layer_faults, joins, none-first, none-second}

-- ---- numbers of names

pub above-numbers : (names xs : List Name) → lists_names names xs ≡ true → above (map (number names) xs) ≤ length names
above-numbers names [] listed = omega arith
above-numbers names (x ∷ xs) listed =
    let below = number-below names x (and-first (is_listed names x) (lists_names names xs) listed) in
    let rest = above-numbers names xs (and-second (is_listed names x) (lists_names names xs) listed) in
    omega (arith, below, rest)

not_false : (b : Bool) → not b ≡ true → b ≡ false
not_false true e = absurd (cc e)
not_false false e = refl

or-first : (a b : Bool) → (a || b) ≡ false → a ≡ false
or-first true b e = absurd (cc e)
or-first false b e = refl

or-second : (a b : Bool) → (a || b) ≡ false → b ≡ false
or-second true b e = absurd (cc e)
or-second false b e = e

not-listed-twice : (names : List Name) (x : Name) (ys : List Name) → is_listed names x ≡ true → lists_names names ys
    ≡ true → list_any (bytes_eq x) ys ≡ false → list_any (λ m. m == number names x) (map (number names) ys) ≡ false
not-listed-twice names x [] listed all none = refl
not-listed-twice names x (y ∷ ys) listed all none =
    let rest = not-listed-twice names x ys listed (and-second (is_listed names y) (lists_names names ys) all)
    (or-second (bytes_eq x y) (list_any (bytes_eq x) ys) none) in
    by (number names y == number names x) refl rest
  where
    differ : bytes_eq x y ≡ false
    differ = or-first (bytes_eq x y) (list_any (bytes_eq x) ys) none

    by : (b : Bool)
        → (number names y == number names x) ≡ b → list_any (λ m. m == number names x) (map (number names) ys) ≡ false
        → (b || list_any (λ m. m == number names x) (map (number names) ys)) ≡ false
    by true e rest =
        let same : x ≡ y = number-same names x y listed (sym ((Decides-eqb (number names y) (number names x)).0 e)) in
        let yes : bytes_eq x y ≡ true = (bytes_eq-Decides x y).1 same in
        absurd (cc (yes, differ))
    by false e rest = rest

pub numbers-differ : (names xs : List Name) → lists_names names xs ≡ true → shape.all_differ xs ≡ true
    → fit.all_differ (map (number names) xs) ≡ true
numbers-differ names [] all differ = refl
numbers-differ names (x ∷ xs) all differ =
    let none = not_false (list_any (bytes_eq x) xs)
    (and-first (not (list_any (bytes_eq x) xs)) (shape.all_differ xs) differ) in
    let one = not-listed-twice names x xs (and-first (is_listed names x) (lists_names names xs) all)
    (and-second (is_listed names x) (lists_names names xs) all) none in
    let rest = numbers-differ names xs (and-second (is_listed names x) (lists_names names xs) all)
    (and-second (not (list_any (bytes_eq x) xs)) (shape.all_differ xs) differ) in
    ap (λ b. not b && fit.all_differ (map (number names) xs)) one ∙ rest

-- ---- counts

if_empty : (b : Bool) (x : NameFault) → (if b then [] else x ∷ []) ≡ [] → b ≡ true
if_empty true x e = refl
if_empty false x e = absurd (cc e)

pub record Counts (args results a r : ℕ) : Type 0 where
  pub arguments : a ≡ args
  pub outs : r ≡ results

counted : (at args outs a r : ℕ) → count_faults NameFault DuplicateFunction UnknownFunction WrongArguments WrongResults
    UnknownAction at args outs a r ≡ [] → Counts args outs a r
counted at args outs a r none =
    let one = if_empty (a == args) (WrongArguments at) (none-first (if a == args then [] else WrongArguments at ∷ [])
    (if r == outs then [] else WrongResults at ∷ []) none) in
    let two = if_empty (r == outs) (WrongResults at) (none-second (if a == args then [] else WrongArguments at ∷ [])
    (if r == outs then [] else WrongResults at ∷ []) none) in
    record { arguments = (Decides-eqb a args).0 one; outs = (Decides-eqb r outs).0 two }

-- each function of the source by its number, with its counts
abbrev pub CallsFit : List Func → List FlatFunc → Type 0
CallsFit fs qs = (x : Name) (f : Func) → function_named fs x ≡ Some f → (a r : ℕ)
    → Counts (length f.args) (length f.results) a r → counts_fit (slice_get qs (callee_number fs x)) r a ≡ true

call-fits : (fs : List Func) (qs : List FlatFunc) → CallsFit fs qs → (at a r : ℕ) (x : Name) → call_faults NameFault
    DuplicateFunction UnknownFunction WrongArguments WrongResults UnknownAction at a r (function_named fs x) ≡ []
    → counts_fit (slice_get qs (callee_number fs x)) r a ≡ true
call-fits fs qs fits at a r x none = by (function_named fs x) refl none
  where
    by : (o : Option Func) → function_named fs x ≡ o
        → call_faults NameFault DuplicateFunction UnknownFunction WrongArguments WrongResults UnknownAction at a r o
        ≡ [] → counts_fit (slice_get qs (callee_number fs x)) r a ≡ true
    by None e none = absurd (cc none)
    by (Some f) e none = fits x f e a r (counted at (length f.args) (length f.results) a r none)

results-few : (at a r : ℕ) (action : Name) → action_faults NameFault DuplicateFunction UnknownFunction WrongArguments
    WrongResults UnknownAction at a r action ≡ [] → r ≤ 1
results-few at a r action none = by (bytes_eq action (codes "MMIOREAD")) (bytes_eq action (codes "MMIOWRITE")) none
  where
    abbrev-free : (args outs : ℕ) → outs ≤ 1 → count_faults NameFault DuplicateFunction UnknownFunction WrongArguments
        WrongResults UnknownAction at args outs a r ≡ [] → r ≤ 1
    abbrev-free args outs few none = let c = counted at args outs a r none in let e = c.outs in omega (arith, e, few)

    by : (b c : Bool)
        → (if b then count_faults NameFault DuplicateFunction UnknownFunction WrongArguments WrongResults
        UnknownAction at 1 1 a r
        else (if c then count_faults NameFault DuplicateFunction UnknownFunction WrongArguments WrongResults
        UnknownAction at 2 0 a r else UnknownAction at ∷ [])) ≡ [] → r ≤ 1
    by true c none = abbrev-free 1 1 (omega arith) none
    by false true none = abbrev-free 2 0 (omega arith) none
    by false false none = absurd (cc none)

-- ---- what holds of a command

-- the statements of commands with some variables, whose weight bounds their temporaries
pub record Body (fs : List Func) (qs : List FlatFunc) (n : ℕ) (lists : Bool) (size : ℕ) (vs : List Name) (deep : ℕ)
    (called : List Name) (body : List Stmt) : Type 0 where
  pub weight : ℕ
  pub split : length vs + weight ≤ size
  pub fine : lists ≡ true → Fine qs (n + weight) size deep (map (callee_number fs) called) body

abbrev pub nested : Cmd → ℕ
nested = fold-Cmd ℕ nested_step

abbrev pub called : Cmd → List Name
called = fold-Cmd (List Name) callees_step

abbrev pub CommandSized : List Func → List FlatFunc → Scope → Cmd → Type 0
CommandSized fs qs scope c =
    faults fs c ≡ [] → is_shaped_command c ≡ true
    → Body fs qs (temporaries scope) (lists_command scope.names c) (command_bulk c) (command_variables c) (nested c)
    (called c) (command fs scope c)

device-fine : (qs : List FlatFunc) (top : ℕ) (action : Name) (xs ys : List ℕ) → above xs ≤ top → above ys ≤ top
    → Fine qs top 1 0 [] (device_statements action xs ys)
device-fine qs top action xs ys one two =
    by (bytes_eq action (codes "MMIOREAD")) (reads xs ys one two) (writes xs ys one two)
  where
    reads : (xs ys : List ℕ) → above xs ≤ top → above ys ≤ top → Fine qs top 1 0 [] (read_statements xs ys)
    reads (x ∷ []) (y ∷ []) one two =
        fine-one qs top 1 0 [] (Stmt-F.Read x y) (omega (arith, one, two)) (omega arith) (omega arith) refl refl
    reads [] ys one two = fine-none qs top 1 0
    reads (x ∷ []) [] one two = fine-none qs top 1 0
    reads (x ∷ []) (y ∷ z ∷ ys) one two = fine-none qs top 1 0
    reads (x ∷ w ∷ xs) ys one two = fine-none qs top 1 0

    writes : (xs ys : List ℕ) → above xs ≤ top → above ys ≤ top → Fine qs top 1 0 [] (write_statements xs ys)
    writes [] (y ∷ z ∷ []) one two =
        fine-one qs top 1 0 [] (Stmt-F.Write y z) (omega (arith, one, two)) (omega arith) (omega arith) refl refl
    writes [] [] one two = fine-none qs top 1 0
    writes [] (y ∷ []) one two = fine-none qs top 1 0
    writes [] (y ∷ z ∷ w ∷ ys) one two = fine-none qs top 1 0
    writes (x ∷ xs) ys one two = fine-none qs top 1 0

    by : (b : Bool) → Fine qs top 1 0 [] (read_statements xs ys) → Fine qs top 1 0 [] (write_statements xs ys)
        → Fine qs top 1 0 [] (if b then read_statements xs ys else write_statements xs ys)
    by true read write = read
    by false read write = write

-- ---- commands in turn

abbrev pub CommandsSized : List Func → List FlatFunc → Scope → List Cmd → Type 0
CommandsSized fs qs scope cs =
    joins (map (faults fs) cs) ≡ [] → list_all (λ ok. ok) (map is_shaped_command cs) ≡ true
    → Body fs qs (temporaries scope) (list_all (λ ok. ok) (map (lists_command scope.names) cs))
    (sum (map command_bulk cs)) (all_of (map command_variables cs)) (measure.largest (map nested cs))
    (paths.joined (map called cs)) (joined (map (command fs scope) cs))

sum-more : (n : ℕ) (ns : List ℕ) → sum (n ∷ ns) ≡ n + sum ns
sum-more n ns = omega (arith, sum-same (n ∷ ns), sum-same ns, sum_by-cons (λ m. m) n ns)
  where
    map-same : (ms : List ℕ) → map (λ m. m) ms ≡ ms
    map-same [] = refl
    map-same (m ∷ ms) = ap (λ q. m ∷ q) (map-same ms)

    sum-same : (ms : List ℕ) → sum ms ≡ sum_by (λ m. m) ms
    sum-same ms = ap sum (sym (map-same ms)) ∙ sum-map (λ m. m) ms

pub commands-sized : {X : Type 0} (fs : List Func) (qs : List FlatFunc) (scope : Scope) (h : X → Cmd)
    → ((x : X) → CommandSized fs qs scope (h x)) → (xs : List X) → CommandsSized fs qs scope (map h xs)
commands-sized fs qs scope h each [] none shaped =
    record { weight = 0; split = omega arith; fine = λ listed. fine-none qs (temporaries scope + 0) 0 0 }
commands-sized fs qs scope h each (x ∷ xs) none shaped =
    let c = h x in
    let cs = map h xs in
    let one = each x (none-first (faults fs c) (joins (map (faults fs) cs)) none)
    (and-first (is_shaped_command c) (list_all (λ ok. ok) (map is_shaped_command cs)) shaped) in
    let rest = commands-sized fs qs scope h each xs (none-second (faults fs c) (joins (map (faults fs) cs)) none)
    (and-second (is_shaped_command c) (list_all (λ ok. ok) (map is_shaped_command cs)) shaped) in
    let total = sum-more (command_bulk c) (map command_bulk cs) in
    let vs = command_variables c in
    let ws = all_of (map command_variables cs) in
    let n = temporaries scope in
    let more = sum (map command_bulk cs) in
    let deep = max (nested c) (measure.largest (map nested cs)) in
    let gs = map (callee_number fs) (called c) in
    let hs = map (callee_number fs) (paths.joined (map called cs)) in
    let top = n + (one.weight + rest.weight) in
    let first = command fs scope c in
    let others = joined (map (command fs scope) cs) in
    record {
      weight = one.weight + rest.weight;
      split = let s = one.split in let s' = rest.split in let len = length-append vs ws in
          omega (arith, s, s', len, total);
      fine = λ listed.
          let a = one.fine (and-first (lists_command scope.names c)
          (list_all (λ ok. ok) (map (lists_command scope.names) cs)) listed) in
          let b = rest.fine (and-second (lists_command scope.names c)
          (list_all (λ ok. ok) (map (lists_command scope.names) cs)) listed) in
          subst (λ q. Fine qs top (sum (map command_bulk (c ∷ cs))) deep q (first ++ others))
          (sym (map-append (callee_number fs) (called c) (paths.joined (map called cs))))
          (fine-within qs top (command_bulk c + more) deep top (sum (map command_bulk (c ∷ cs))) deep (gs ++ hs)
          (first ++ others) (omega arith) (omega (arith, total)) (omega arith)
          (fine-append qs top (command_bulk c) more deep gs hs first others
          (fine-within qs (n + one.weight) (command_bulk c) (nested c) top (command_bulk c) deep gs first (omega arith)
          (omega arith) (omega arith) a)
          (fine-within qs (n + rest.weight) more (measure.largest (map nested cs)) top more deep hs others (omega arith)
          (omega arith) (omega arith) b)));
    }

-- ---- the forms

module _ (fs : List Func) (qs : List FlatFunc) (scope : Scope) where
  set-sized : (x : Name) (e : Expr)
      → Body fs qs (temporaries scope) (is_listed scope.names x && lists_expression scope.names e) (1 + expression_bulk
      e) (x ∷ expression_variables e) 0 [] ((expression scope e).into (number scope.names x) (temporaries scope))
  set-sized x e =
      let s = (expression_sized qs scope e).words in
      record {
        weight = s.weight;
        split = let split = s.split in omega (arith, split);
        fine = λ listed.
            let below = number-below scope.names x
            (and-first (is_listed scope.names x) (lists_expression scope.names e) listed) in
            fine-within qs (max (suc (number scope.names x)) (temporaries scope + (s.weight - 1)))
            (expression_bulk e) 0 (temporaries scope + s.weight) (1 + expression_bulk e) 0 []
            ((expression scope e).into (number scope.names x) (temporaries scope))
            (omega (arith, below)) (omega arith) (omega arith)
            (s.into (number scope.names x) (temporaries scope)
            (and-second (is_listed scope.names x) (lists_expression scope.names e) listed) (omega arith));
      }

  operand-coded : (e : Expr) (free : ℕ) → lists_expression scope.names e ≡ true → temporaries scope ≤ free
      → Coded qs (expression_bulk e) (expression_sized qs scope e).words.weight free (expression scope e)
  operand-coded e free listed le = coded qs (temporaries scope) (lists_expression scope.names e) (expression_bulk e)
      (expression_variables e) (expression scope e) (expression_sized qs scope e).words listed free le

  store-sized : (size : Size) (a e : Expr) → Body fs qs (temporaries scope) (lists_expression scope.names a
      && lists_expression scope.names e) (1 + expression_bulk a + expression_bulk e) (expression_variables a
      ++ expression_variables e) 0 [] (command_step fs scope (Cmd-F.Store size a e))
  store-sized size a e =
      let s = (expression_sized qs scope a).words in
      let t = (expression_sized qs scope e).words in
      record {
        weight = s.weight + t.weight;
        split = let split = s.split in
            let split' = t.split in let len = length-append (expression_variables a) (expression_variables e) in
            omega (arith, split, split', len);
        fine = λ listed.
            let free = temporaries scope in
            let c = (expression_sized qs scope a).address free
            (and-first (lists_expression scope.names a) (lists_expression scope.names e) listed) (omega arith) in
            let grows = c.grows in
            let after = c.after in
            let below = c.below in
            let at = (expression scope a).address free in
            let onward = at.next in
            let d = operand-coded e onward
            (and-second (lists_expression scope.names a) (lists_expression scope.names e) listed) grows in
            let below' = d.below in
            let top = free + (s.weight + t.weight) in
            let one = expression_bulk a in
            let two = expression_bulk e in
            let B = code (expression scope e) onward in
            let y : Stmt-F Stmt = Stmt-F.Store size at.at (place (expression scope e).variable onward) at.offset in
            let last = fine-one qs top 1 0 [] y (omega (arith, below, below', after)) (omega arith) (omega arith) refl
            (ap (λ b. b && true) c.fits) in
            let rest = fine-append qs top two 1 0 [] [] B (roll-Stmt y ∷ []) (fine-within qs (onward + t.weight) two 0
            top two 0 [] B (omega (arith, after)) (omega arith) (omega arith) d.body) last in
            fine-within qs top (one + (two + 1)) 0 top (1 + one + two) 0 [] (at.before ++ (B ++ roll-Stmt y ∷ []))
            (omega arith) (omega arith) (omega arith)
            (fine-append qs top one (two + 1) 0 [] [] at.before (B ++ roll-Stmt y ∷ []) (fine-within qs
            (free + s.weight) one 0 top one 0 [] at.before (omega arith) (omega arith) (omega arith) c.body) rest);
      }

  call-sized : CallsFit fs qs → (at : ℕ) (xs : List Name) (callee : Name) (es : List Expr)
      → layer_faults fs (Cmd-F.Call at xs callee es) ≡ [] → (are_names xs && are_arguments es) ≡ true
      → Body fs qs (temporaries scope) (lists_names scope.names xs && lists_expressions scope.names es)
      (1 + length es + length xs + expressions_bulk es) (xs ++ expressions_variables es) 0 (callee ∷ [])
      (command_step fs scope (Cmd-F.Call at xs callee es))
  call-sized fits at xs callee es none shaped =
      let o = operands qs scope es in
      let free = temporaries scope in
      let differ = and-second (nat_le (length xs) 8) (shape.all_differ xs)
      (and-first (are_names xs) (are_arguments es) shaped) in
      let ok = call-fits fs qs fits at (length es) (length xs) callee none in
      let flats = map (expression scope) es in
      let A = codes_of flats free in
      let ys = places_of flats free in
      let ns = map (number scope.names) xs in
      let g = callee_number fs callee in
      let y : Stmt-F Stmt = Stmt-F.Call ns g ys in
      let lx : length ns ≡ length xs = length-map xs (number scope.names) in
      let ly : length ys ≡ length es = o.count free in
      record {
        weight = o.weight;
        split = let split = o.split in let len = length-append xs (expressions_variables es) in
            omega (arith, split, len);
        fine = λ listed.
            let top = free + o.weight in
            let all = and-first (lists_names scope.names xs) (lists_expressions scope.names es) listed in
            let more = and-second (lists_names scope.names xs) (lists_expressions scope.names es) listed in
            let one = above-numbers scope.names xs all in
            let two = o.places free more (omega arith) in
            let there : above ((ns ++ ys) ++ []) ≡ max (above ns) (above ys) = ap above (append-nil (ns ++ ys))
            ∙ above-append ns ys in
            let counts : counts_fit (slice_get qs g) (length ns) (length ys) ≡ true =
            ap (λ k. counts_fit (slice_get qs g) k (length ys)) lx
            ∙ ap (counts_fit (slice_get qs g) (length xs)) ly ∙ ok in
            let values : ((counts_fit (slice_get qs g) (length ns) (length ys) && fit.all_differ ns) && true) ≡ true =
            ap (λ b. (b && fit.all_differ ns) && true) counts
            ∙ ap (λ b. b && true) (numbers-differ scope.names xs all differ) in
            let last = fine-one qs top (1 + length xs + length es) 0 (g ∷ []) y (omega (arith, there, one, two))
            (omega (arith, lx, ly)) (omega arith) refl values in
            let size = expressions_bulk es in
            fine-within qs top (size + (1 + length xs + length es)) 0 top (1 + length es + length xs + size) 0 (g ∷ [])
            (A ++ roll-Stmt y ∷ []) (omega arith) (omega arith) (omega arith)
            (fine-append qs top size (1 + length xs + length es) 0 [] (g ∷ []) A (roll-Stmt y ∷ [])
            (o.body free more (omega arith)) last);
      }

  interact-sized : (at : ℕ) (xs : List Name) (action : Name) (es : List Expr)
      → layer_faults fs (Cmd-F.Interact at xs action es) ≡ []
      → Body fs qs (temporaries scope) (lists_names scope.names xs && lists_expressions scope.names es)
      (1 + expressions_bulk es) (xs ++ expressions_variables es) 0 []
      (command_step fs scope (Cmd-F.Interact at xs action es))
  interact-sized at xs action es none =
      let o = operands qs scope es in
      let free = temporaries scope in
      let few = results-few at (length es) (length xs) action none in
      let flats = map (expression scope) es in
      let A = codes_of flats free in
      let ys = places_of flats free in
      let ns = map (number scope.names) xs in
      record {
        weight = o.weight;
        split = let split = o.split in let len = length-append xs (expressions_variables es) in
            omega (arith, split, len, few);
        fine = λ listed.
            let top = free + o.weight in
            let all = and-first (lists_names scope.names xs) (lists_expressions scope.names es) listed in
            let more = and-second (lists_names scope.names xs) (lists_expressions scope.names es) listed in
            let one = above-numbers scope.names xs all in
            let two = o.places free more (omega arith) in
            let size = expressions_bulk es in
            let B = device_statements action ns ys in
            fine-within qs top (size + 1) 0 top (1 + size) 0 [] (A ++ B) (omega arith) (omega arith) (omega arith)
            (fine-append qs top size 1 0 [] [] A B (o.body free more (omega arith))
            (device-fine qs top action ns ys (omega (arith, one)) two));
      }

  -- commands in a command, as a body with the lists that the command has

  stackalloc-sized : (x : Name) (size : ℕ) (cs : List Cmd) → CommandsSized fs qs scope cs
      → joins (map (faults fs) cs) ≡ [] → (is_buffer_size size && list_all (λ ok. ok) (map is_shaped_command cs)) ≡ true
      → Body fs
      qs (temporaries scope) (is_listed scope.names x && list_all (λ ok. ok) (map (lists_command scope.names) cs))
      (1 + sum (map command_bulk cs)) (x ∷ all_of (map command_variables cs))
      (size + measure.largest (map nested cs)) (paths.joined (map called cs))
      (roll-Stmt (Stmt-F.Stackalloc (number scope.names x) size (joined (map (command fs scope) cs))) ∷ [])
  stackalloc-sized x size cs inner none shaped =
      let is_size = and-first (is_buffer_size size) (list_all (λ ok. ok) (map is_shaped_command cs)) shaped in
      let whole = and-first (size % 4 == 0) (nat_le size 65536) is_size in
      let b = inner none (and-second (is_buffer_size size) (list_all (λ ok. ok) (map is_shaped_command cs)) shaped) in
      let lists = list_all (λ ok. ok) (map (lists_command scope.names) cs) in
      record {
        weight = b.weight;
        split = let split = b.split in omega (arith, split);
        fine = λ listed.
            let below = number-below scope.names x (and-first (is_listed scope.names x) lists listed) in
            fine-stackalloc qs (temporaries scope + b.weight) (sum (map command_bulk cs))
            (measure.largest (map nested cs)) (map (callee_number fs) (paths.joined (map called cs)))
            (number scope.names x) size (joined (map (command fs scope) cs))
            (omega (arith, below)) whole (b.fine (and-second (is_listed scope.names x) lists listed));
      }

  if-sized : (e : Expr) (ps bs : List Cmd) → CommandsSized fs qs scope ps → CommandsSized fs qs scope bs
      → joins (map (faults fs) ps) ++ joins (map (faults fs) bs) ≡ []
      → (list_all (λ ok. ok) (map is_shaped_command ps) && list_all (λ ok. ok) (map is_shaped_command bs)) ≡ true
      → Body fs qs (temporaries scope) (lists_expression scope.names e && (list_all (λ ok. ok)
      (map (lists_command scope.names) ps) && list_all (λ ok. ok) (map (lists_command scope.names) bs)))
      (1 + expression_bulk e + sum (map command_bulk ps) + sum (map command_bulk bs))
      (expression_variables e ++ (all_of (map command_variables ps) ++ all_of (map command_variables bs)))
      (max (measure.largest (map nested ps)) (measure.largest (map nested bs)))
      (paths.joined (map called ps) ++ paths.joined (map called bs))
      (branches ((expression scope e).test (temporaries scope)) (joined (map (command fs scope) ps))
      (joined (map (command fs scope) bs)))
  if-sized e ps bs first second none shaped =
      let faults1 = joins (map (faults fs) ps) in
      let faults2 = joins (map (faults fs) bs) in
      let shaped1 = list_all (λ ok. ok) (map is_shaped_command ps) in
      let shaped2 = list_all (λ ok. ok) (map is_shaped_command bs) in
      let a = first (none-first faults1 faults2 none) (and-first shaped1 shaped2 shaped) in
      let b = second (none-second faults1 faults2 none) (and-second shaped1 shaped2 shaped) in
      let s = (expression_sized qs scope e).words in
      let us = expression_variables e in
      let vs = all_of (map command_variables ps) in
      let ws = all_of (map command_variables bs) in
      let lists1 = list_all (λ ok. ok) (map (lists_command scope.names) ps) in
      let lists2 = list_all (λ ok. ok) (map (lists_command scope.names) bs) in
      record {
        weight = s.weight + (a.weight + b.weight);
        split =
            let split = s.split in let split' = a.split in let split'' = b.split in
            let len = length-append us (vs ++ ws) in let len' = length-append vs ws in
            omega (arith, split, split', split'', len, len');
        fine = λ listed.
            let free = temporaries scope in
            let rest = and-second (lists_expression scope.names e) (lists1 && lists2) listed in
            let c = (expression_sized qs scope e).test free
            (and-first (lists_expression scope.names e) (lists1 && lists2) listed) (omega arith) in
            let below = c.below in
            let top = free + (s.weight + (a.weight + b.weight)) in
            let size = expression_bulk e in
            let one = sum (map command_bulk ps) in
            let two = sum (map command_bulk bs) in
            let deep1 = measure.largest (map nested ps) in
            let deep2 = measure.largest (map nested bs) in
            let deep = max deep1 deep2 in
            let gs = map (callee_number fs) (paths.joined (map called ps)) in
            let hs = map (callee_number fs) (paths.joined (map called bs)) in
            let A = joined (map (command fs scope) ps) in
            let B = joined (map (command fs scope) bs) in
            let test = (expression scope e).test free in
            let C = test.before in
            let y : Stmt-F Stmt = Stmt-F.If test.cond A B in
            let last = fine-if qs top one two deep gs hs test.cond A B (omega (arith, below))
            (fine-within qs (free + a.weight) one deep1 top one deep gs A (omega arith) (omega arith) (omega arith)
            (a.fine (and-first lists1 lists2 rest)))
            (fine-within qs (free + b.weight) two deep2 top two deep hs B (omega arith) (omega arith) (omega arith)
            (b.fine (and-second lists1 lists2 rest))) in
            subst (λ q. Fine qs top (1 + size + one + two) deep q (C ++ roll-Stmt y ∷ []))
            (sym (map-append (callee_number fs) (paths.joined (map called ps)) (paths.joined (map called bs))))
            (fine-within qs top (size + (1 + one + two)) deep top (1 + size + one + two) deep (gs ++ hs)
            (C ++ roll-Stmt y ∷ []) (omega arith) (omega arith) (omega arith)
            (fine-append qs top size (1 + one + two) deep [] (gs ++ hs) C (roll-Stmt y ∷ [])
            (fine-within qs (free + s.weight) size 0 top size deep [] C (omega arith) (omega arith) (omega arith)
            c.body) last));
      }

  while-sized : (e : Expr) (cs : List Cmd) → CommandsSized fs qs scope cs → joins (map (faults fs) cs) ≡ []
      → list_all (λ ok. ok) (map is_shaped_command cs) ≡ true
      → Body fs qs (temporaries scope)
      (lists_expression scope.names e && list_all (λ ok. ok) (map (lists_command scope.names) cs)) (1
      + expression_bulk e + sum (map command_bulk cs)) (expression_variables e ++ all_of (map command_variables cs))
      (measure.largest (map nested cs)) (paths.joined (map called cs))
      (roll-Stmt (Stmt-F.Loop ((expression scope e).test (temporaries scope)).before
      ((expression scope e).test (temporaries scope)).cond (joined (map (command fs scope) cs))) ∷ [])
  while-sized e cs inner none shaped =
      let b = inner none shaped in
      let s = (expression_sized qs scope e).words in
      let us = expression_variables e in
      let vs = all_of (map command_variables cs) in
      let lists = list_all (λ ok. ok) (map (lists_command scope.names) cs) in
      record {
        weight = s.weight + b.weight;
        split = let split = s.split in let split' = b.split in let len = length-append us vs in
            omega (arith, split, split', len);
        fine = λ listed.
            let free = temporaries scope in
            let c = (expression_sized qs scope e).test free (and-first (lists_expression scope.names e) lists listed)
            (omega arith) in
            let below = c.below in
            let top = free + (s.weight + b.weight) in
            let size = expression_bulk e in
            let one = sum (map command_bulk cs) in
            let deep = measure.largest (map nested cs) in
            let gs = map (callee_number fs) (paths.joined (map called cs)) in
            let B = joined (map (command fs scope) cs) in
            let test = (expression scope e).test free in
            fine-loop qs top size one deep [] gs test.cond test.before B (omega (arith, below))
            (fine-within qs (free + s.weight) size 0 top size deep [] test.before (omega arith) (omega arith)
            (omega arith) c.body)
            (fine-within qs (free + b.weight) one deep top one deep gs B (omega arith) (omega arith) (omega arith)
            (b.fine (and-second (lists_expression scope.names e) lists listed)));
      }

  within : (lists : Bool) (size : ℕ) (vs : List Name) (deep : ℕ) (gs : List Name) (body : List Stmt)
      → Body fs qs (temporaries scope) lists size vs deep gs body
      → Body fs qs (temporaries scope) lists (1 + size) vs deep gs body
  within lists size vs deep gs body b = record {
    weight = b.weight;
    split = let split = b.split in omega (arith, split);
    fine = λ listed. fine-within qs (temporaries scope + b.weight) size deep (temporaries scope + b.weight) (1 + size)
        deep (map (callee_number fs) gs) body (omega arith) (omega arith) (omega arith) (b.fine listed);
  }

-- ---- every command

abbrev Known : List Func → List FlatFunc → Scope → Type 0
Known fs qs scope = (c : Cmd) × CommandSized fs qs scope c

abbrev LayerSized : List Func → List FlatFunc → Scope → Cmd-F Cmd → Type 0
LayerSized fs qs scope y =
    layer_faults fs (map-Cmd Cmd (List NameFault) (faults fs) y) ≡ []
    → shape.command_step (map-Cmd Cmd Bool is_shaped_command y) ≡ true
    → Body fs qs (temporaries scope) (lists_command_step scope.names (map-Cmd Cmd Bool (lists_command scope.names) y))
    (bulk.command_step (map-Cmd Cmd ℕ command_bulk y))
    (command_variables_step (map-Cmd Cmd (List Name) command_variables y))
    (nested_step (map-Cmd Cmd ℕ nested y)) (callees_step (map-Cmd Cmd (List Name) called y))
    (command_step fs scope (map-Cmd Cmd (List Stmt) (command fs scope) y))

layer : (fs : List Func) (qs : List FlatFunc) (scope : Scope) → CallsFit fs qs → (y : Cmd-F (Known fs qs scope))
    → LayerSized fs qs scope (map-Cmd (Known fs qs scope) Cmd (λ e. e.0) y)
layer fs qs scope fits Cmd-F.Skip none shaped =
    record { weight = 0; split = omega arith; fine = λ listed. fine-none qs (temporaries scope + 0) 1 0 }
layer fs qs scope fits (Cmd-F.Unset x) none shaped =
    record { weight = 0; split = omega arith; fine = λ listed. fine-none qs (temporaries scope + 0) 1 0 }
layer fs qs scope fits (Cmd-F.Set x e) none shaped = set-sized fs qs scope x e
layer fs qs scope fits (Cmd-F.Store size a e) none shaped = store-sized fs qs scope size a e
layer fs qs scope fits (Cmd-F.Stackalloc x size body) none shaped =
    stackalloc-sized fs qs scope x size (map (λ e. e.0) body)
    (commands-sized fs qs scope (λ e. e.0) (λ e. e.1) body) none shaped
layer fs qs scope fits (Cmd-F.If e first second) none shaped =
    if-sized fs qs scope e (map (λ e. e.0) first) (map (λ e. e.0) second) (commands-sized fs qs scope (λ e. e.0)
    (λ e. e.1) first) (commands-sized fs qs scope (λ e. e.0) (λ e. e.1) second) none shaped
layer fs qs scope fits (Cmd-F.While e body) none shaped =
    while-sized fs qs scope e (map (λ e. e.0) body) (commands-sized fs qs scope (λ e. e.0) (λ e. e.1) body) none shaped
layer fs qs scope fits (Cmd-F.Seq body) none shaped =
    let cs = map (λ (e : Known fs qs scope). e.0) body in
    within fs qs scope (list_all (λ ok. ok) (map (lists_command scope.names) cs)) (sum (map command_bulk cs))
    (all_of (map command_variables cs)) (measure.largest (map nested cs)) (paths.joined (map called cs))
    (joined (map (command fs scope) cs))
    (commands-sized fs qs scope (λ e. e.0) (λ e. e.1) body none shaped)
layer fs qs scope fits (Cmd-F.Call at xs callee es) none shaped =
    call-sized fs qs scope fits at xs callee es none shaped
layer fs qs scope fits (Cmd-F.Interact at xs action es) none shaped = interact-sized fs qs scope at xs action es none

pub command-sized : (fs : List Func) (qs : List FlatFunc) (scope : Scope) → CallsFit fs qs → (c : Cmd)
    → CommandSized fs qs scope c
command-sized fs qs scope fits = ind-Cmd (CommandSized fs qs scope) (λ x y is none shaped.
    let n = temporaries scope in
    let found = fold-roll-Cmd (List NameFault) (layer_faults fs) x in
    let shapes = fold-roll-Cmd Bool shape.command_step x in
    let lists = fold-roll-Cmd Bool (lists_command_step scope.names) x in
    let size = fold-roll-Cmd ℕ bulk.command_step x in
    let vs = fold-roll-Cmd (List Name) command_variables_step x in
    let deep = fold-roll-Cmd ℕ nested_step x in
    let calls = fold-roll-Cmd (List Name) callees_step x in
    let flat = fold-roll-Cmd (List Stmt) (command_step fs scope) x in
    let c = roll-Cmd x in
    let size1 = bulk.command_step (map-Cmd Cmd ℕ command_bulk x) in
    let vs1 = command_variables_step (map-Cmd Cmd (List Name) command_variables x) in
    let deep1 = nested_step (map-Cmd Cmd ℕ nested x) in
    let calls1 = callees_step (map-Cmd Cmd (List Name) called x) in
    let flat1 = command_step fs scope (map-Cmd Cmd (List Stmt) (command fs scope) x) in
    let step = subst (LayerSized fs qs scope) is (layer fs qs scope fits y) (sym found ∙ none) (sym shapes ∙ shaped) in
    let one = subst (λ b. Body fs qs n b size1 vs1 deep1 calls1 flat1) (sym lists) step in
    let two = subst (λ b. Body fs qs n (lists_command scope.names c) b vs1 deep1 calls1 flat1) (sym size) one in
    let three = subst (λ b. Body fs qs n (lists_command scope.names c) (command_bulk c) b deep1 calls1 flat1)
    (sym vs) two in
    let four = subst
    (λ b. Body fs qs n (lists_command scope.names c) (command_bulk c) (command_variables c) b calls1 flat1)
    (sym deep) three in
    let five = subst
    (λ b. Body fs qs n (lists_command scope.names c) (command_bulk c) (command_variables c) (nested c) b flat1)
    (sym calls) four in
    subst
    (λ b. Body fs qs n (lists_command scope.names c) (command_bulk c) (command_variables c) (nested c) (called c) b)
    (sym flat) five)
