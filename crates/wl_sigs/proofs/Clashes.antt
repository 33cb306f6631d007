-- Which rules an added message breaks because of what the tables already have.
use Rattle.std.proofs.Common.{◌≡◌, ℕ, ◌⊎◌, inl, inr, true, false, cond, List, refl, sym, ap, ◌∙◌}
use Rattle.std.proofs.Common.{subst, Some, None, Bool, slice_get, ◌&&◌, arith}
use Rattle.std.specs.List.{Contains, list_any}
use Rattle.std.proofs.lemmas.Bool.{eqb-true, and_parts, and_from}
use Rattle.std.proofs.lemmas.Bool.Decides.{Decides-eqb}
use Rattle.std.proofs.lemmas.Option.{slice_get-get_or}
use Rattle.wl_wire.specs.declared.kind.Kind.{Kind}
use Rattle.wl_wire.specs.declared.kind.Kind.TheVariants as kinds
use Rattle.wl_wire.specs.declared.kind.Iface.{Iface}
use Rattle.wl_sigs.specs.Side.{Side}
use Rattle.wl_sigs.specs.Side.TheVariants.{Request, Event}
use Rattle.wl_sigs.specs.Tables.{MessageSignature, Interface, messages_of, signature_at}
use Rattle.wl_sigs.specs.Tables.{has_destroying_event, destroys_target}
use Rattle.wl_text.specs.Text.{WrittenMessage}
use Rattle.wl_sigs.specs.Extending.{is_object_of, is_server_object_of, has_argument, clash_rule}
use Rattle.wl_sigs.specs.FirstLineBroken.{Clashes, request_of_ended, ends_argument}
use Rattle.wl_sigs.specs.FirstLineBroken.{ends_server_object}
use Rattle.wl_sigs.proofs.Lookups.{found, signature_from}
use Rattle.wl_sigs.proofs.JoinedValid.{any_at}
use Rattle.wl_sigs.proofs.ValidKeeps.{any_true}
use Rattle.wl_sigs.proofs.LineRules.{contains}
use Rattle.wl_sigs.proofs.LeastRule.{IsLeastRule}

-- an argument of a message of the tables passes the test
record Named (test : Kind → Bool) (tables : List Interface) (side : Side) : Type 0 where
  place : ℕ
  opcode : ℕ
  message : MessageSignature
  kind : Kind
  at : signature_at tables place side opcode ≡ Some message
  there : Contains message.kinds kind
  passes : test kind ≡ true

is_named : (test : Kind → Bool) (tables : List Interface) (side : Side) → has_argument test tables side ≡ true
    → Named test tables side
is_named test tables side any =
    let i = any_at (λ i. list_any (λ m. list_any test m.kinds) (messages_of side i)) tables any in
    let m = any_at (λ m. list_any test m.kinds) (messages_of side i.1) i.3 in
    let k = any_at test m.1.kinds m.3 in
    record {
      place = i.0;
      opcode = m.0;
      message = m.1;
      kind = k.1;
      at = signature_from tables i.0 side m.0 i.1 m.1 i.2 m.2;
      there = contains m.1.kinds k.0 k.1 k.2;
      passes = k.3;
    }

contained_at : {X : Type 0} (xs : List X) (x : X) → (witness : Contains xs x) → slice_get xs witness.0 ≡ Some x
contained_at xs x witness = slice_get-get_or xs witness.0 x witness.1 ∙ ap Some witness.2

was_named : (test : Kind → Bool) (tables : List Interface) (side : Side) → Named test tables side
    → has_argument test tables side ≡ true
was_named test tables side witness =
    let here = found tables witness.place side witness.opcode witness.message witness.at in
    any_true (λ i. list_any (λ m. list_any test m.kinds) (messages_of side i)) tables witness.place here.interface here.at
    (any_true (λ m. list_any test m.kinds) (messages_of side here.interface) witness.opcode witness.message here.of
    (any_true test witness.message.kinds witness.there.0 witness.kind (contained_at witness.message.kinds witness.kind witness.there) witness.passes))

is_object : (place : ℕ) (k : Kind) → is_object_of place k ≡ true
    → (null : Bool) × (iface : Iface) × (k ≡ kinds.Obj null (Some iface)) × (iface.0 ≡ place)
is_object place kinds.Int is = cc is
is_object place kinds.Uint is = cc is
is_object place kinds.Fixed is = cc is
is_object place (kinds.Str null) is = cc is
is_object place (kinds.Obj null None) is = cc is
is_object place (kinds.Obj null (Some iface)) is = (null, iface, refl, eqb-true iface.0 place is)
is_object place (kinds.New iface) is = cc is
is_object place (kinds.NewByServer iface) is = cc is
is_object place kinds.Array is = cc is
is_object place kinds.Fd is = cc is

is_made : (place : ℕ) (k : Kind) → is_server_object_of place k ≡ true
    → (iface : Iface) × (k ≡ kinds.NewByServer iface) × (iface.0 ≡ place)
is_made place kinds.Int is = cc is
is_made place kinds.Uint is = cc is
is_made place kinds.Fixed is = cc is
is_made place (kinds.Str null) is = cc is
is_made place (kinds.Obj null iface) is = cc is
is_made place (kinds.New iface) is = cc is
is_made place (kinds.NewByServer iface) is = (iface, refl, eqb-true iface.0 place is)
is_made place kinds.Array is = cc is
is_made place kinds.Fd is = cc is

-- the rules that an added message breaks because of what the tables already have

request_clash : (tables : List Interface) (place : ℕ) (old : Interface) (m : WrittenMessage) (s : MessageSignature)
    → (t : Bool) → has_destroying_event old ≡ t
    → IsLeastRule (Clashes tables place old Request s) (cond t (Some 7) None)
request_clash tables place old m s true ends = record {
  found = λ rule e. request_of_ended (let same : 7 ≡ rule = cc e in sym same) refl ends;
  least = λ rule e other clash. let same : 7 ≡ rule = cc e in elim clash [
    | request_of_ended is side ended ↦ omega (arith, same, is)
    | ends_argument p opcode request null iface is side destroys at there here ↦ cc side
    | ends_server_object p opcode event iface is side destroys at there here ↦ cc side
  ];
  none = λ e rule clash. cc e;
}
request_clash tables place old m s false ends = record {
  found = λ rule e. cc e;
  least = λ rule e other clash. cc e;
  none = λ e rule clash. elim clash [
    | request_of_ended is side ended ↦ let no : false ≡ true = sym ends ∙ ended in cc no
    | ends_argument p opcode request null iface is side destroys at there here ↦ cc side
    | ends_server_object p opcode event iface is side destroys at there here ↦ cc side
  ];
}

named_object : (tables : List Interface) (place p opcode : ℕ) (request : MessageSignature) (null : Bool)
    (iface : Iface) → signature_at tables p Request opcode ≡ Some request
    → Contains request.kinds (kinds.Obj null (Some iface)) → iface.0 ≡ place
    → has_argument (is_object_of place) tables Request ≡ true
named_object tables place p opcode request null iface at there here =
    was_named (is_object_of place) tables Request (record {
      place = p;
      opcode = opcode;
      message = request;
      kind = kinds.Obj null (Some iface);
      at = at;
      there = there;
      passes = (Decides-eqb iface.0 place).1 here;
    })

named_made : (tables : List Interface) (place p opcode : ℕ) (event : MessageSignature) (iface : Iface)
    → signature_at tables p Event opcode ≡ Some event → Contains event.kinds (kinds.NewByServer iface)
    → iface.0 ≡ place → has_argument (is_server_object_of place) tables Event ≡ true
named_made tables place p opcode event iface at there here =
    was_named (is_server_object_of place) tables Event (record {
      place = p;
      opcode = opcode;
      message = event;
      kind = kinds.NewByServer iface;
      at = at;
      there = there;
      passes = (Decides-eqb iface.0 place).1 here;
    })

event_clash : (tables : List Interface) (place : ℕ) (old : Interface) (m : WrittenMessage) (s : MessageSignature)
    → destroys_target s.destroys ≡ m.destroys → (a b : Bool)
    → m.destroys && has_argument (is_object_of place) tables Request ≡ a
    → m.destroys && has_argument (is_server_object_of place) tables Event ≡ b
    → IsLeastRule (Clashes tables place old Event s) (cond a (Some 7) (cond b (Some 11) None))
event_clash tables place old m s same a b is_a is_b = by_tests a b is_a is_b
  where
    as_argument : m.destroys && has_argument (is_object_of place) tables Request ≡ true
        → (rule : ℕ) → rule ≡ 7 → Clashes tables place old Event s rule
    as_argument is rule seven =
        let both = and_parts m.destroys (has_argument (is_object_of place) tables Request) is in
        let witness = is_named (is_object_of place) tables Request both.1 in
        let object = is_object place witness.kind witness.passes in
        ends_argument witness.place witness.opcode witness.message object.0 object.1 seven refl (same ∙ both.0) witness.at
        (subst (λ (k : Kind). Contains witness.message.kinds k) object.2 witness.there) object.3

    as_made : m.destroys && has_argument (is_server_object_of place) tables Event ≡ true
        → (rule : ℕ) → rule ≡ 11 → Clashes tables place old Event s rule
    as_made is rule eleven =
        let both = and_parts m.destroys (has_argument (is_server_object_of place) tables Event) is in
        let witness = is_named (is_server_object_of place) tables Event both.1 in
        let made = is_made place witness.kind witness.passes in
        ends_server_object witness.place witness.opcode witness.message made.0 eleven refl (same ∙ both.0) witness.at
        (subst (λ (k : Kind). Contains witness.message.kinds k) made.1 witness.there) made.2

    at_least : (rule : ℕ) → Clashes tables place old Event s rule
        → ((rule ≡ 7) × (m.destroys && has_argument (is_object_of place) tables Request ≡ true))
        ⊎ ((rule ≡ 11) × (m.destroys && has_argument (is_server_object_of place) tables Event ≡ true))
    at_least rule (request_of_ended is side ended) = cc side
    at_least rule (ends_argument p opcode request null iface is side destroys at there here) =
        inl (
          is,
          and_from m.destroys _ (sym same ∙ destroys)
              (named_object tables place p opcode request null iface at there here),
        )
    at_least rule (ends_server_object p opcode event iface is side destroys at there here) =
        inr (
          is,
          and_from m.destroys _ (sym same ∙ destroys)
              (named_made tables place p opcode event iface at there here),
        )

    by_tests : (a b : Bool) → m.destroys && has_argument (is_object_of place) tables Request ≡ a
        → m.destroys && has_argument (is_server_object_of place) tables Event ≡ b
        → IsLeastRule (Clashes tables place old Event s) (cond a (Some 7) (cond b (Some 11) None))
    by_tests true b is is' = record {
      found = λ rule e. as_argument is rule (let seven : 7 ≡ rule = cc e in sym seven);
      least = λ rule e other clash. let seven : 7 ≡ rule = cc e in elim (at_least other clash) [
        | inl argument ↦ let at = argument.0 in omega (arith, seven, at)
        | inr made ↦ let at = made.0 in omega (arith, seven, at)
      ];
      none = λ e rule clash. cc e;
    }
    by_tests false true is is' = record {
      found = λ rule e. as_made is' rule (let eleven : 11 ≡ rule = cc e in sym eleven);
      least = λ rule e other clash. let eleven : 11 ≡ rule = cc e in elim (at_least other clash) [
        | inl argument ↦ let no : false ≡ true = sym is ∙ argument.1 in cc no
        | inr made ↦ let at = made.0 in omega (arith, eleven, at)
      ];
      none = λ e rule clash. cc e;
    }
    by_tests false false is is' = record {
      found = λ rule e. cc e;
      least = λ rule e other clash. cc e;
      none = λ e rule clash. elim (at_least rule clash) [
        | inl argument ↦ let no : false ≡ true = sym is ∙ argument.1 in cc no
        | inr made ↦ let no : false ≡ true = sym is' ∙ made.1 in cc no
      ];
    }

pub clash_least : (tables : List Interface) (place : ℕ) (old : Interface) (side : Side) (m : WrittenMessage)
    (s : MessageSignature) → destroys_target s.destroys ≡ m.destroys
    → IsLeastRule (Clashes tables place old side s) (clash_rule tables place old side m)
clash_least tables place old Request m s same =
    request_clash tables place old m s (has_destroying_event old) refl
clash_least tables place old Event m s same = event_clash tables place old m s same _ _ refl refl
