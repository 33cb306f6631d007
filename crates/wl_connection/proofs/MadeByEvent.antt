-- What an event makes if the tables are valid: an object whose interface no event destroys, and
-- which is not wl_registry. Tables with such an event let the server make objects.
use Rattle.std.proofs.Common.{◌≡◌, ◌≢◌, ℕ, inl, inr, true, false, List, [], ◌∷◌, refl, ap, subst, ◌∙◌}
use Rattle.std.proofs.lemmas.Bool.{cases_Bool}
use Rattle.std.proofs.lemmas.List.Elements.{All-contains_itself, All-head, All-tail}
use Rattle.std.specs.List.{All, Contains}
use Rattle.std.specs.declared.option.Option.{Option}
use Rattle.std.specs.declared.option.Option.TheVariants.{None, Some}
use Rattle.wl_wire.specs.declared.kind.Kind.{Kind}
use Rattle.wl_wire.specs.declared.kind.Kind.TheVariants as kinds
use Rattle.wl_wire.specs.declared.kind.Iface.{Iface}
use Rattle.wl_wire.specs.Argument.{Argument, New}
use Rattle.wl_sigs.specs.Side.TheVariants.{Event}
use Rattle.wl_sigs.specs.Tables.{Interface, MessageSignature, signature_at, interface_at, new_objects}
use Rattle.wl_sigs.specs.Tables.{has_destroying_event}
use Rattle.wl_sigs.specs.Rules.{has_server_objects, is_ended_by_event}
use Rattle.wl_sigs.specs.Fixed.{wl_registry, registry}
use Rattle.wl_sigs.specs.Valid.{Valid, IsFixedPlace}
use Rattle.wl_objects.specs.Messages.{NewObject, made, made_by}
use Rattle.wl_connection.specs.ServerRange.{IsMadeBySome, NoEventEnds}
use Rattle.wl_connection.proofs.NewIds.{one_of, without_client}
use Rattle.wl_connection.proofs.Openings.{event_makes_none, makes_none}

module _ (P : Kind → Type 0) (tables : List Interface) (version : ℕ) where
  one_kind : (kind : Kind) (ks : List Kind) (value : Argument) (m : NewObject) → new_objects (kind ∷ ks) ≡ []
      → P kind → made_by tables version kind value ≡ Some m → P (kinds.NewByServer m.iface)
  one_kind (kinds.New iface) ks value m none p e = absurd (cc none)
  one_kind (kinds.NewByServer iface) ks (New id) m none p e =
      let same : record { id = id; iface = iface; version = version } ≡ m = cc e in
      subst (λ (x : NewObject). P (kinds.NewByServer x.iface)) same p
  one_kind kind ks value m none p e = absurd (cc e)

  -- a property of all kinds of an event holds for the kind that makes the object
  made_kind : (ks : List Kind) (values : List Argument) (m : NewObject) → new_objects ks ≡ [] → All P ks
      → made tables version ks values ≡ Some m → P (kinds.NewByServer m.iface)
  made_kind [] values m none all e = absurd (cc e)
  made_kind (kind ∷ ks) [] m none all e = absurd (cc e)
  made_kind (kind ∷ ks) (value ∷ values) m none all e =
      elim (one_of (made_by tables version kind value) (made tables version ks values) m e) [
        | inl here ↦ one_kind kind ks value m none (All-head P kind ks all) here
        | inr behind ↦ made_kind ks values m (without_client kind ks none) (All-tail P kind ks all) behind
      ]

-- what is known about the interface of an object that an event makes
pub record IsMadeByEvent (tables : List Interface) (iface : Iface) : Type 0 where
  pub named : has_server_objects tables ≡ true
  pub lasting : NoEventEnds tables iface
  pub by_some : IsMadeBySome tables iface
  pub other : iface ≢ registry

-- V11, for one kind of a message
abbrev pub MadeRightly : List Interface → Kind → Type 0
MadeRightly tables kind = (iface : Iface) (i : Interface) → kind ≡ kinds.NewByServer iface
    → interface_at tables iface.0 ≡ Some i → (has_destroying_event i ≡ false) × ¬ IsFixedPlace iface.0

pub ended_by : (o : Option Interface) → ((i : Interface) → o ≡ Some i → has_destroying_event i ≡ false)
    → is_ended_by_event o ≡ false
ended_by None rule = refl
ended_by (Some i) rule = rule i refl

pub made_by_event : (tables : List Interface) → Valid tables → (place opcode version : ℕ) (m : MessageSignature)
    (values : List Argument) (new : NewObject) → signature_at tables place Event opcode ≡ Some m
    → made tables version m.kinds values ≡ Some new → IsMadeByEvent tables new.iface
made_by_event tables v place opcode version m values new at e =
    let rightly = made_kind (MadeRightly tables) tables version m.kinds values new
    (v.few_objects_made.events place opcode m at) (v.server_makes.interfaces Event place opcode m at) e in
    record {
      named = elim (cases_Bool (has_server_objects tables)) [
        | inl named ↦ named
        | inr unnamed ↦ (let none = makes_none tables version m.kinds values
            (event_makes_none tables v unnamed place opcode m at) in
            absurd (cc (none, e)))
      ];
      lasting = ended_by (interface_at tables new.iface.0) (λ i there. (rightly new.iface i refl there).0);
      by_some = record {
        place = place;
        opcode = opcode;
        event = m;
        at = at;
        has = made_kind (Contains m.kinds) tables version m.kinds values new
            (v.few_objects_made.events place opcode m at) (All-contains_itself m.kinds) e;
      };
      other = λ same. (let there : interface_at tables new.iface.0 ≡ Some wl_registry =
          ap (λ (i : Iface). interface_at tables i.0) same ∙ v.fixed_four.registry in
          (rightly new.iface wl_registry refl there).1 (inr (inl (ap (λ (i : Iface). i.0) same))));
    }
