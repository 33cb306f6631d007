-- Writing a message over the bytes of a slice.
use Rattle.std.proofs.Common.{◌≡◌, ℕ, ◌+◌, ◌<◌, ◌≤◌, List, [], ◌++◌, length, get_or, take}
use Rattle.std.proofs.Common.{drop, refl, sym, ap, ◌∙◌, arith, append_assoc, add-one, drop-cons}
use Rattle.std.proofs.lemmas.List.{append-nil, take_all, drop_all, take_at, length-take-le}
use Rattle.std.proofs.Math.Seq.{take-append-add}
use borrow.Rule.Slice.PartMut.{put_mid}
use Rattle.wl_wire.specs.Argument.{Argument}
use Rattle.wl_wire.specs.Spelling.{canonical, spelled_len}
use Rattle.wl_wire.proofs.Canonicals.{canonical-len}
use Rattle.wl_objects.specs.declared.argument.Arg.{Arg}
use Rattle.wl_objects.specs.declared.writing.CallMessage.{CallMessage}
use Rattle.wl_objects.specs.declared.writing.BindMessage.{BindMessage}
use Rattle.wl_objects.specs.Writing.{call_message, CallFits, bind_message, values_of_bind, on_wire}
use Rattle.wl_objects.specs.Writing.{message_len, spelled, wired, given_of, EachFits}
use Rattle.wl_objects.proofs.Wholes.{length-message}

pub call_len : (call : CallMessage) → CallFits call → call.len ≡ length (call_message call)
call_len call fits = fits.len ∙ sym (length-message call.object call.opcode (on_wire call.new_id call.args.now))

pub bind_len : (bind : BindMessage) → length (bind_message bind)
    ≡ message_len (values_of_bind bind)
bind_len bind = length-message bind.registry 0 (values_of_bind bind)

-- the bytes before the place, and those written from there on
pub written-next : (at n k : ℕ) (out c x rest : List ℕ) → at ≤ length out → length c ≡ n → x ≡ c ++ rest
    → take (at + n) (put_mid at k out x) ≡ take at out ++ c
written-next at n k out c x rest low long is =
    let front : length (take at out) ≡ at = length-take-le at out low in
    let sum : at + n ≡ length (take at out) + n = omega arith in
    ap (λ m. take m (put_mid at k out x)) sum
    ∙ take-append-add (take at out) (x ++ drop k (drop at out)) n
    ∙ ap (λ l. take at out ++ l) (ap (λ l. take n (l ++ drop k (drop at out))) is
    ∙ ap (take n) (append_assoc c rest (drop k (drop at out))) ∙ take_at c (rest ++ drop k (drop at out)) n long)

spelled-at : (id i : ℕ) (args : List Arg) (a : Arg) → i < length args
    → spelled (on_wire id (drop i args)) ≡ canonical (wired id (given_of (get_or args i a)))
    ++ spelled (on_wire id (drop (i + 1) args))
spelled-at id i args a p = rw (add-one, drop-cons args i a p) refl

pub fits-next : (id i : ℕ) (args : List Arg) (a : Arg) → i < length args → EachFits (on_wire id (drop i args))
    → EachFits (on_wire id (drop (i + 1) args))
fits-next id i args a p h = rw add-one ((rw (drop-cons args i a p) at h).1)

-- one more argument
pub written-more : (id i at n k : ℕ) (args : List Arg) (a : Arg) (out x rest whole : List ℕ) (v : Argument)
    → i < length args
    → v ≡ wired id (given_of (get_or args i a)) → n ≡ spelled_len v
    → x ≡ canonical v ++ rest → at ≤ length out → take at out ++ spelled (on_wire id (drop i args)) ≡ whole
    → take (at + n) (put_mid at k out x) ++ spelled (on_wire id (drop (i + 1) args)) ≡ whole
written-more id i at n k args a out x rest whole v p is len spells low before =
    let others = spelled (on_wire id (drop (i + 1) args)) in
    ap (λ l. l ++ others) (written-next at n k out (canonical v) x rest low (canonical-len v ∙ sym len) spells)
    ∙ append_assoc (take at out) (canonical v) others
    ∙ ap (λ w. take at out ++ (canonical w ++ others)) is
    ∙ ap (λ l. take at out ++ l) (sym (spelled-at id i args a p))
    ∙ before

-- all arguments
pub written-all : (id i at : ℕ) (args : List Arg) (out whole : List ℕ) → length args ≤ i
    → at + message_len (on_wire id (drop i args)) ≡ length out + 8
    → take at out ++ spelled (on_wire id (drop i args)) ≡ whole → out ≡ whole
written-all id i at args out whole end len before =
    let none : drop i args ≡ [] = drop_all i args end in
    let size : at + 8 ≡ length out + 8 = rw none at len in
    let all : take at out ≡ out = take_all at out (omega arith) in
    sym (append-nil out) ∙ ap (λ l. l ++ []) (sym all) ∙ ap (λ l. take at out ++ spelled (on_wire id l)) (sym none)
    ∙ before
