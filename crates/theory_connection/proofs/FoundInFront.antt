-- What an end finds at the front of its waiting bytes, if a message that fits was written.
use Rattle.std.proofs.Common.{◌≡◌, ℕ, ◌<◌, ◌≤◌, List, [], ◌∷◌, ◌++◌, map, length, take, drop, sym}
use Rattle.std.proofs.Common.{ap, subst, ◌∙◌, arith}
use Rattle.std.specs.declared.option.Option.{Option}
use Rattle.std.specs.declared.option.Option.TheVariants.{None, Some}
use Rattle.std.specs.declared.result.Result.TheVariants.{Ok}
use Rattle.std.proofs.lemmas.List.{take-append-drop}
use Rattle.wl_wire.specs.declared.kind.Kind.{Kind}
use Rattle.wl_wire.specs.Argument.{Obj, New, NewNamed}
use Rattle.wl_sigs.specs.Side.{Side}
use Rattle.wl_sigs.specs.Side.TheVariants.{Request, Event}
use Rattle.wl_sigs.specs.Tables.{Interface}
use Rattle.wl_sigs.specs.Tables as sigs
use Rattle.wl_message.specs.Arrived.{in_front}
use Rattle.wl_message.specs.Cut.{Whole}
use Rattle.wl_object_map.specs.declared.object.Entry.{Entry}
use Rattle.wl_object_map.specs.Objects.{Objects, ObjectsAreSound, look}
use Rattle.wl_objects.specs.Writing.{spelled as spelled_values, message_bytes}
use Rattle.wl_objects.specs.Messages.{Received, received}
use Rattle.wl_connection.specs.Core.{Core}
use Rattle.wl_connection.specs.Receiving.{Found, found, found_at, found_in, header_of, reader_in}
use Rattle.theory_connection.specs.Meant.{Birth, Known, Message, Arg, wire, tokens, spelled_meant, new_object_in}
use Rattle.theory_connection.specs.Meant.{made_in, objects, born_of_entry}
use Rattle.theory_connection.specs.World.{Row, Each, IfThere}
use Rattle.theory_connection.specs.Flight.{Fresh, NextTold, client_rows, server_rows, row_of_entry, as_row}
use Rattle.theory_connection.specs.Stands.{FitsSignature, SuitKinds}
use Rattle.theory_connection.proofs.Bridges.{fresh_free, fresh_room, by_client, by_server}
use Rattle.theory_connection.proofs.WholeInFlight.{each_by}
use Rattle.theory_connection.proofs.EndedObject.{if_by}
use Rattle.std.proofs.Common.{◌+◌, true, false, refl}
use Rattle.std.proofs.lemmas.Bool.Decides.{nat_tests}
use Rattle.std.specs.Prelude.{option_map, nat_le}
use Rattle.wl_object_map.specs.declared.object.State.{State}
use Rattle.wl_object_map.specs.declared.object.State.TheVariants as states
use Rattle.wl_object_map.specs.Ranges.{table_id}
use Rattle.wl_object_map.specs.ObjectsLaws.{is_from}
use Rattle.wl_objects.specs.Messages.{waits_for_request}
use Rattle.theory_connection.proofs.Flight.{fresh_range}
use Rattle.theory_connection.proofs.TwoRanges.{told_room}
use Rattle.theory_connection.proofs.MadeFor.{MadeFor}
use Rattle.theory_connection.proofs.ReadAsMeant.{HeldAt, FreeAt, AllMet, received_right, parted}

-- the message that is found
abbrev pub the_message : Message Known → Entry → sigs.MessageSignature → Received
the_message m entry signature = record {
  target = record { id = m.target.id; birth = entry.birth };
  entry = entry;
  signature = signature;
  values = map wire m.args;
}

-- the same, with its size and opcode
abbrev pub the_found : ℕ → Message Known → Entry → sigs.MessageSignature → Found
the_found n m entry signature = record { size = n; opcode = m.opcode; message = the_message m entry signature }

-- a message at the front that fits, and whose objects are held, is found
pub finds : (core : Core) (side : Side) (m : Message Known) (n : ℕ) (rows : Birth → Option Row) (entry : Entry)
    (f : FitsSignature core.tables side m) → Each (MadeFor side) f.signature.kinds
    → in_front core.inbox ≡ Whole n → take n core.inbox.bytes ≡ (spelled_meant m).bytes
    → look core.view m.target.id ≡ Some entry → born_of_entry m.target.id entry ≡ m.target.born
    → AllMet core.tables side core.view rows m.args → length (tokens m.args) ≤ length core.inbox.tokens
    → found core side ≡ Ok (Some (the_found n m entry f.signature))
finds core side m n rows entry f none e b l s k t =
    let vs = map wire m.args in
    let bytes = core.inbox.bytes in
    let whole : bytes ≡ message_bytes m.target.id m.opcode vs ++ drop n bytes =
    sym (take-append-drop n bytes) ∙ ap (λ (x : List ℕ). x ++ drop n bytes) b in
    let p = parted bytes (drop n bytes) m.target.id m.opcode vs whole (omega (arith, f.word)) f.opcode f.len in
    let body : drop 8 (take n bytes) ≡ spelled_values vs = ap (drop 8) b in
    let r = received_right core.tables side core.view rows m (header_of bytes)
    (length core.inbox.tokens) entry f none p.object p.opcode_is l s k t in
    ap (found_at core side) e
    ∙ ap (λ (x : List ℕ). found_in n (header_of bytes).opcode
    (received core.tables side (reader_in core side) (header_of bytes) x (length core.inbox.tokens))) body
    ∙ ap (found_in n (header_of bytes).opcode) r
    ∙ ap (λ (o : ℕ). Ok (Some (record { size = n; opcode = o; message = the_message m entry f.signature }))) p.opcode_is

-- ---- the end has all that the message needs

-- each argument meets its object or a free id
pub all_met : (tables : List Interface) (version : ℕ) (side : Side) (view : Objects) (rows : Birth → Option Row) (There : Known → Type 0)
    → ((x : Known) → 0 < x.id → There x → HeldAt view rows x)
    → (ks : List Kind) (args : List (Arg Known)) → SuitKinds tables version ks args → Each There (objects args)
    → Each (λ a. IfThere (FreeAt tables side view) (new_object_in a)) args → AllMet tables side view rows args
all_met tables version side view rows There f [] [] a o n = tt
all_met tables version side view rows There f (k ∷ ks) [] a o n = absurd a
all_met tables version side view rows There f [] (x ∷ args) a o n = absurd a
all_met tables version side view rows There f (k ∷ ks) (Obj None ∷ args) a o n =
    (tt, all_met tables version side view rows There f ks args a.1 o n.1)
all_met tables version side view rows There f (k ∷ ks) (Obj (Some x) ∷ args) a o n =
    (f x a.0.1.0 o.0, all_met tables version side view rows There f ks args a.1 o.1 n.1)
all_met tables version side view rows There f (k ∷ ks) (New x ∷ args) a o n =
    (n.0, all_met tables version side view rows There f ks args a.1 o n.1)
all_met tables version side view rows There f (k ∷ ks) (NewNamed name own x ∷ args) a o n =
    (n.0, all_met tables version side view rows There f ks args a.1 o n.1)
all_met tables version side view rows There f (k ∷ ks) (arg ∷ args) a o n =
    (tt, all_met tables version side view rows There f ks args a.1 o n.1)

-- each new object is the one that is made
news_are : (P : Known → Type 0) (args all : List (Arg Known)) → IfThere P (made_in all)
    → Each (λ a. IfThere (λ x. made_in all ≡ Some x) (new_object_in a)) args
    → Each (λ a. IfThere P (new_object_in a)) args
news_are P args all g h =
    each_by (λ (a : Arg Known). IfThere (λ x. made_in all ≡ Some x) (new_object_in a))
    (λ (a : Arg Known). IfThere P (new_object_in a))
    (λ a k. if_by {P = λ (x : Known). made_in all ≡ Some x} {Q = P}
    (λ x e. subst (IfThere P) e g) (new_object_in a) k) args h

-- the id of a fresh object passes the server's tests of a request
pub news_free : (tables : List Interface) (view : Objects) (args all : List (Arg Known)) → ObjectsAreSound view
    → IfThere (Fresh (server_rows view)) (made_in all)
    → Each (λ a. IfThere (λ x. made_in all ≡ Some x) (new_object_in a)) args
    → Each (λ a. IfThere (FreeAt tables Request view) (new_object_in a)) args
news_free tables view args all s g h = news_are (FreeAt tables Request view) args all
    (if_by {P = Fresh (server_rows view)} {Q = FreeAt tables Request view} (λ x f. record {
      free = rw (fresh_free view x s f, fresh_room view x f) refl;
      birth = f.birth ∙ sym (by_client x.id view.client.births (fresh_range f));
    }) (made_in all) g) h

not_waiting : (tables : List Interface) (view : Objects) (x : Known) → NextTold (client_rows view) x
    → waits_for_request tables (look view x.id) ≡ false
not_waiting tables view x f = by_row (look view x.id) refl
  where
    by_state : (s : State) (e : Entry) → e.state ≡ s → look view x.id ≡ Some e
        → waits_for_request tables (Some e) ≡ false
    by_state states.Zombie e h l = rw h refl
    by_state states.Live e h l = absurd (f.not_open (born_of_entry x.id e)
        (ap (option_map (row_of_entry x.id)) l ∙ ap (λ (s : State). Some (as_row s (born_of_entry x.id e))) h))

    by_row : (o : Option Entry) → look view x.id ≡ o → waits_for_request tables o ≡ false
    by_row None l = refl
    by_row (Some e) l = by_state e.state e refl l

-- the id of the server's next object passes the client's tests of an event
pub told_free : (tables : List Interface) (view : Objects) (x : Known) → NextTold (client_rows view) x
    → FreeAt tables Event view x
told_free tables view x f =
    let from = is_from x.id f.range in
    let next = f.next in
    let used : nat_le (table_id x.id) (view.server.used + 1) ≡ true = grind (arith, nat_tests, from, next) in
    record {
      free = rw (not_waiting tables view x f, used, told_room view x.id f.range f.low f.left, f.range) refl;
      birth = f.birth ∙ sym (by_server x.id view.server.births f.range);
    }

pub news_told : (tables : List Interface) (view : Objects) (args all : List (Arg Known))
    → IfThere (NextTold (client_rows view)) (made_in all)
    → Each (λ a. IfThere (λ x. made_in all ≡ Some x) (new_object_in a)) args
    → Each (λ a. IfThere (FreeAt tables Event view) (new_object_in a)) args
news_told tables view args all g h = news_are (FreeAt tables Event view) args all
    (if_by {P = NextTold (client_rows view)} {Q = FreeAt tables Event view} (told_free tables view) (made_in all) g) h
