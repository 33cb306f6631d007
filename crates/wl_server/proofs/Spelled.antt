-- What a server writes on its own is a spelling.
use Rattle.std.proofs.Common.{◌≡◌, ◌≢◌, ℕ, ◌≤◌, Bool, true, false, not, List, [], ◌∷◌, length, Some}
use Rattle.std.proofs.Common.{None, refl, sym, ap, subst, ◌∙◌, inl, inr, arith, lit≤}
use Rattle.std.specs.Prelude.{Option, nat_eq, nat_le, ◌||◌}
use Rattle.std.specs.List.{All, list_any}
use Rattle.std.specs.Option.{option_and_then, option_map_or}
use Rattle.std.proofs.lemmas.Bool.{and_parts, eq-eqb, leb-true}
use Rattle.std.proofs.lemmas.List.Elements.{All-nil, All-cons, All-weaker}
use Rattle.wl_wire.specs.Argument.{Argument, Uint, Str}
use Rattle.wl_wire.specs.Spelling.{IsText}
use Rattle.wl_wire.specs.declared.kind.Kind.{Kind}
use Rattle.wl_wire.specs.declared.kind.Iface.{Iface}
use Rattle.wl_sigs.specs.Side.TheVariants.{Event}
use Rattle.wl_sigs.specs.Tables.{Interface, MessageSignature, interface_at, signature_at, message_of}
use Rattle.wl_sigs.specs.Fixed.{any_object, uint, string}
use Rattle.wl_sigs.specs.Valid.{Valid, IsNameByte}
use Rattle.wl_objects.specs.declared.error.Fault.{Fault}
use Rattle.wl_objects.specs.declared.error.Fault.TheVariants as faults
use Rattle.wl_objects.specs.Writing.{error_values, message_bytes}
use Rattle.wl_message.specs.Cut.{usual_limit}
use Rattle.wl_connection.specs.Spelled.{MessageSpells}
use Rattle.wl_connection.proofs.Spelled.{own-spelled}
use Rattle.wl_server.specs.Calls.{is_error_text}
use Rattle.wl_server.specs.Requests.{fault_message}
use Rattle.wl_server.specs.Announcing.{Due, Owing, Removal, Telling, name_at}
use Rattle.wl_server.specs.Spelled.{DeleteSpells, ErrorSpells, DueSpells, IsSpelled}

-- two signatures of one message have the same kinds
kinds_in : (o : Option MessageSignature) (m signature : MessageSignature) → o ≡ Some m → o ≡ Some signature
    → m.kinds ≡ signature.kinds
kinds_in o m signature e there = let same = sym e ∙ there in let is : m ≡ signature = cc same
    in ap (λ (x : MessageSignature). x.kinds) is

by_display : (tables : List Interface) (opcode : ℕ) (m : MessageSignature) (object : ℕ) (values : List Argument)
    → (Valid tables → signature_at tables 0 Event opcode ≡ Some m)
    → MessageSpells usual_limit m.kinds object opcode values (message_bytes object opcode values)
    → IsSpelled tables 0 object opcode values
by_display tables opcode m object values e s v signature there =
    subst (λ (ks : List Kind). MessageSpells usual_limit ks object opcode values (message_bytes object opcode values))
    (kinds_in _ m signature (e v) there) s

by_registry : (tables : List Interface) (opcode : ℕ) (m : MessageSignature) (object : ℕ) (values : List Argument)
    → (Valid tables → signature_at tables 1 Event opcode ≡ Some m)
    → (Valid tables → MessageSpells usual_limit m.kinds object opcode values (message_bytes object opcode values))
    → IsSpelled tables 1 object opcode values
by_registry tables opcode m object values e s v signature there =
    subst (λ (ks : List Kind). MessageSpells usual_limit ks object opcode values (message_bytes object opcode values))
    (kinds_in _ m signature (e v) there) (s v)

pub delete_spells : (tables : List Interface) (id : ℕ) → DeleteSpells tables id
delete_spells tables id low =
    by_display tables 1 _ 1 (Uint id ∷ []) (λ v. ap (option_and_then (message_of Event 1)) v.fixed_four.display)
    (own-spelled (uint ∷ []) 1 1 (Uint id ∷ []) (low, tt) (lit≤ tt))

-- ---- wl_display.error

no_zero_in : (b : ℕ) (text : List ℕ) (t : Bool) → nat_eq b 0 ≡ t → not (t || list_any (λ b. nat_eq b 0) text) ≡ true
    → (not (list_any (λ b. nat_eq b 0) text) ≡ true → All (λ b. b ≢ 0) text)
    → All (λ b. b ≢ 0) (b ∷ text)
no_zero_in b text true e k f = absurd (cc k)
no_zero_in b text false e k f = All-cons (λ b. b ≢ 0) b text (λ z. (let no = sym e ∙ eq-eqb b 0 z in cc no)) (f k)

no_zero : (text : List ℕ) → not (list_any (λ b. nat_eq b 0) text) ≡ true → All (λ b. b ≢ 0) text
no_zero [] h = All-nil (λ b. b ≢ 0)
no_zero (b ∷ text) h = no_zero_in b text (nat_eq b 0) refl h (no_zero text)

pub error_spells : (tables : List Interface) (object code : ℕ) (text : List ℕ) → ErrorSpells tables object code text
error_spells tables object code text some low word plain =
    let parts = and_parts (nat_le (length text) 127) _ plain in
    let short : length text ≤ 127 = leb-true (length text) 127 parts.0 in
    by_display tables 0 _ 1 (error_values object code text)
    (λ v. ap (option_and_then (message_of Event 0)) v.fixed_four.display)
    (own-spelled (any_object ∷ uint ∷ string ∷ []) 1 0 (error_values object code text) (
      (low, λ z. absurd (omega (arith, z, some))),
      (word, (record { no_nul = no_zero text parts.1; len = omega (arith, short) }, tt)),
    ) (omega (arith, short)))

pub fault_text : (fault : Fault) → is_error_text (fault_message fault) ≡ true
fault_text faults.BadSize = refl
fault_text faults.UnknownObject = refl
fault_text faults.UnknownMessage = refl
fault_text (faults.BadArgument place fault) = refl
fault_text (faults.BadObject place) = refl
fault_text (faults.BadNewId place) = refl
fault_text faults.TrailingBytes = refl
fault_text faults.MissingDescriptor = refl
fault_text faults.BadBind = refl
fault_text faults.TooManyObjects = refl

-- ---- the events for registries

not_zero : (b : ℕ) → IsNameByte b → b ≢ 0
not_zero b (inl h) e = omega arith
not_zero b (inr (inl h)) e = omega arith
not_zero b (inr (inr h)) e = omega arith

record IsShortText (text : List ℕ) : Type 0 where
  is : IsText text
  short : length text ≤ 256

name_text : (tables : List Interface) (iface : Iface) → Valid tables → IsShortText (name_at tables iface)
name_text tables iface v = by_place (interface_at tables iface.0) refl
  where
    by_place : (o : Option Interface) → interface_at tables iface.0 ≡ o
        → IsShortText (option_map_or (λ (i : Interface). i.name) o [])
    by_place None e = record { is = record { no_nul = All-nil (λ b. b ≢ 0); len = lit≤ tt }; short = lit≤ tt }
    by_place (Some i) e =
        let n = v.names_distinct.interfaces_named iface.0 i e in
        let few = n.few in
        record {
          is = record {
            no_nul = All-weaker IsNameByte (λ b. b ≢ 0) not_zero i.name n.bytes;
            len = omega (arith, few);
          };
          short = few;
        }

pub due_spells : (tables : List Interface) (due : Due) → DueSpells tables due
due_spells tables due = by_owing due.owing
  where
    by_owing : (o : Owing) → DueSpells tables (record due { owing = o })
    by_owing (Removal name) w =
        by_registry tables 1 _ due.object.id (Uint name ∷ [])
        (λ v. ap (option_and_then (message_of Event 1)) v.fixed_four.registry)
        (λ v. own-spelled (uint ∷ []) due.object.id 1 (Uint name ∷ []) (w, tt) (lit≤ tt))
    by_owing (Telling name global) w =
        let text = name_at tables global.iface in
        let values = Uint name ∷ Str (Some text) ∷ Uint global.version ∷ [] in
        by_registry tables 0 _ due.object.id values
        (λ v. ap (option_and_then (message_of Event 0)) v.fixed_four.registry)
        (λ v. (let t = name_text tables global.iface v in let short = t.short
        in own-spelled (uint ∷ string ∷ uint ∷ []) due.object.id 0 values (w.0, (t.is, (w.1, tt)))
        (omega (arith, short))))
