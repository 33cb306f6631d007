-- What the client learns of globals.
use Rattle.std.proofs.Common.{◌≡◌, ℕ, Bool, true, false, cond, List, [], ◌∷◌, ◌++◌, map, length}
use Rattle.std.proofs.Common.{refl, sym, ap, subst, ◌∙◌}
use Rattle.std.specs.Prelude.{option_map, nat_eq, nat_lt, not, if◌then◌else◌, filter, unwrap_or, slice_get, is_some}
use Rattle.std.specs.declared.option.Option.{Option}
use Rattle.std.specs.declared.option.Option.TheVariants.{None, Some}
use Rattle.std.proofs.lemmas.Option.{slice_get-map}
use Rattle.std.proofs.lemmas.Bool.{eqb-true}
use Rattle.wl_wire.specs.Argument.{Argument, Uint, Obj}
use Rattle.wl_sigs.specs.Tables.{Interface, place_of}
use Rattle.wl_client.specs.declared.globals.Global.{Global}
use Rattle.wl_client.specs.State.{is_named, global_of}
use Rattle.wl_client.specs.Reports.{argument, number_in, text_in, forgotten, with_replaced, remembered}
use Rattle.wl_client.specs.Reports.{remembered_as, globals_told}
use Rattle.wl_server.specs.State as server
use Rattle.theory_connection.specs.Meant.{Known, Message, Arg, rearg, born_of, wire}
use Rattle.theory_connection.specs.World.{Each, nameless, is_registry}
use Rattle.theory_connection.specs.Stands.{TellsGiven, TellsFitly}
use Rattle.wl_connection.specs.Core.{max_globals}

-- ---- numbers and texts do not depend on how objects are named

number_one : (a : Arg Known) → number_in (wire a) ≡ number_in (nameless (rearg born_of a))
number_one (Obj None) = refl
number_one a = refl

text_one : (a : Arg Known) → text_in (wire a) ≡ text_in (nameless (rearg born_of a))
text_one (Obj None) = refl
text_one a = refl

module _ {Y : Type 0} (f : Argument → Y) (same : (a : Arg Known) → f (wire a) ≡ f (nameless (rearg born_of a))) where
  at_place : (o : Option (Arg Known)) → f (unwrap_or (option_map wire o) (Uint 0))
      ≡ f (unwrap_or (option_map nameless (option_map (rearg born_of) o)) (Uint 0))
  at_place None = refl
  at_place (Some a) = same a

  pub same_at : (args : List (Arg Known)) (k : ℕ)
      → f (argument (map wire args) k) ≡ f (argument (map nameless (map (rearg born_of) args)) k)
  same_at args k =
      ap (λ o. f (unwrap_or o (Uint 0))) (slice_get-map wire args k) ∙ at_place (slice_get args k)
      ∙ sym (ap (λ o. f (unwrap_or o (Uint 0))) (slice_get-map nameless (map (rearg born_of) args) k
      ∙ ap (option_map nameless) (slice_get-map (rearg born_of) args k)))

-- what is learned does not depend on how objects are named
pub told_same : (tables : List Interface) (globals : List Global) (opcode : ℕ) (args : List (Arg Known))
    → globals_told tables globals opcode (map wire args)
    ≡ globals_told tables globals opcode (map nameless (map (rearg born_of) args))
told_same tables globals opcode args =
    λ i. if nat_eq opcode 0 then remembered_as (same_at number_in number_one args 0 i)
    (same_at number_in number_one args 2 i) (place_of tables (same_at text_in text_one args 1 i)) globals
    else if nat_eq opcode 1 then forgotten (same_at number_in number_one args 0 i) globals
    else globals

-- ---- what the client learns was given

-- the global of an event, as the client remembers it
abbrev pub told_of : {tables : List Interface} {given : List server.Global} {args : List (Arg Known)}
    → TellsGiven tables given args → Global
told_of t = record { name = t.name; iface = t.iface; version = t.version }

module _ (P : Global → Type 0) where
  keep_if : (b : Bool) (g : Global) (gs : List Global) → P g → Each P gs → Each P (cond b (g ∷ gs) gs)
  keep_if true g gs p h = (p, h)
  keep_if false g gs p h = h

  -- what holds for each holds for those that pass a test
  pub each_filter : (test : Global → Bool) (gs : List Global) → Each P gs → Each P (filter test gs)
  each_filter test [] h = tt
  each_filter test (g ∷ gs) h = keep_if (test g) g (filter test gs) h.0 (each_filter test gs h.1)

  one_of : (b : Bool) (x y : Global) → P x → P y → P (cond b x y)
  one_of true x y p q = p
  one_of false x y p q = q

  pub each_replaced : (g : Global) (gs : List Global) → P g → Each P gs → Each P (with_replaced g gs)
  each_replaced g [] p h = tt
  each_replaced g (x ∷ gs) p h = (one_of (is_named g.name x) g x p h.0, each_replaced g gs p h.1)

  each_end : (gs : List Global) (g : Global) → Each P gs → P g → Each P (gs ++ g ∷ [])
  each_end [] g h p = (p, tt)
  each_end (x ∷ gs) g h p = (h.0, each_end gs g h.1 p)

  lists_of : (b : Bool) (xs ys : List Global) → Each P xs → Each P ys → Each P (cond b xs ys)
  lists_of true xs ys p q = p
  lists_of false xs ys p q = q

  -- what holds for each remembered global and for a new one holds for all remembered afterwards
  pub each_remembered : (g : Global) (gs : List Global) → P g → Each P gs → Each P (remembered g gs)
  each_remembered g gs p h =
      lists_of (is_some (global_of gs g.name)) (with_replaced g gs) (cond (nat_lt (length gs) max_globals) (gs ++ g ∷ []) gs)
      (each_replaced g gs p h)
      (lists_of (nat_lt (length gs) max_globals) (gs ++ g ∷ []) gs (each_end gs g h p) h)

  told_keeps : (tables : List Interface) (given : List server.Global) (globals : List Global) (opcode : ℕ)
      (args : List (Arg Known)) → (opcode ≡ 0 → (t : TellsGiven tables given args) × P (told_of t)) → Each P globals
      → (b c : Bool) → nat_eq opcode 0 ≡ b → Each P
      (cond b (remembered_as (number_in (argument (map wire args) 0)) (number_in (argument (map wire args) 2))
      (place_of tables (text_in (argument (map wire args) 1))) globals)
      (cond c (forgotten (number_in (argument (map wire args) 0)) globals) globals))
  told_keeps tables given globals opcode args t h true c e = let n = t (eqb-true opcode 0 e)
      in rw (n.0.args_are, n.0.known) (each_remembered (told_of n.0) globals n.1 h)
  told_keeps tables given globals opcode args t h false true e =
      each_filter (λ g. not (is_named (number_in (argument (map wire args) 0)) g)) globals h
  told_keeps tables given globals opcode args t h false false e = h

  -- what holds for each remembered global, and for the global of a registry's event, holds for all
  -- remembered after that event
  pub learns : (tables client_tables : List Interface) (given : List server.Global) (globals : List Global)
      (m : Message Known) → client_tables ≡ tables → TellsFitly tables given m
      → (is_registry m.target.born ≡ true → m.opcode ≡ 0 → (t : TellsGiven tables given m.args) → P (told_of t))
      → Each P globals
      → (b : Bool) → (b ≡ true → is_registry m.target.born ≡ true)
      → Each P (cond b (globals_told client_tables globals m.opcode (map wire m.args)) globals)
  learns tables client_tables given globals m same f new h false r = h
  learns tables client_tables given globals m same f new h true r =
      subst (λ (t : List Interface). Each P (globals_told t globals m.opcode (map wire m.args))) (sym same)
      (told_keeps tables given globals m.opcode m.args (λ e. (let t = f.tells (r refl) e in (t, new (r refl) e t))) h
      (nat_eq m.opcode 0) (nat_eq m.opcode 1) refl)
