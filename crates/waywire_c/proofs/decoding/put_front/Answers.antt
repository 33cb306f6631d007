use Rattle.std.proofs.Common.{◌≡◌, ℕ, ◌∙◌, Bool, false, refl, sym, ap, subst, length}
use Rattle.std.proofs.lemmas.Bool.{le-ltb, lt-ltb}
use Rattle.wl_wire.specs.declared.header.Header.{Header}
use Rattle.wl_wire.specs.Word.{header_at}
use Rattle.wl_message.specs.Cut.{is_size}
use Rattle.waywire_c.specs.Decoding.{decoded_by, of_header, TellsWhole}
use Rattle.waywire_c.proofs.decoding.put_front.Goals as goal

pub returns-then-bytes-lt-HEADER_LEN : goal.returns-then-bytes-lt-HEADER_LEN
returns-then-bytes-lt-HEADER_LEN c =
    rw (lt-ltb (length c.args.bytes.now) 8 c.if-bytes-lt-HEADER_LEN.true)
    (record { status_is = c.fault_status.ensures; told_is = c.no_message.ensures; args = refl })

pub returns-then-not-stands_whole : goal.returns-then-not-stands_whole
returns-then-not-stands_whole c =
    let bytes = c.args.bytes.now in
    let size : c.from-size.result ≡ (header_at bytes).size =
    c.from-size.ensures ∙ ap (λ (h : Header). h.size) c.at_front_of-header.ensures.computes in
    let not-whole : is_size (length bytes) (header_at bytes).size ≡ false =
    sym (ap (λ (n : ℕ). is_size (length bytes) n) size) ∙ (sym c.stands_whole.ensures ∙ c.if-not-stands_whole.true) in
    rw (le-ltb (length bytes) 8 c.if-bytes-lt-HEADER_LEN.false)
    (subst
    (λ (b : Bool). TellsWhole b c.args.set.now.tables.now c.args.set.now.interface.0 c.args.set.now.version
    c.args.set.now.side (header_at bytes) bytes c.fault_status-then-not-stands_whole.result
    (decoded_by c.of_header.result) c.args.args.now c.args.args.now)
    (sym not-whole)
    (record {
      status_is = c.fault_status-then-not-stands_whole.ensures;
      told_is = c.of_header.ensures ∙ ap of_header c.at_front_of-header.ensures.computes;
      args = refl;
    }))
