-- A machine whose memory and heap a step has changed as far as it may.
use Rattle.std.proofs.Common.{◌≡◌, ◌+◌, ◌-◌, ◌/◌, ◌≤◌, length, arith, refl, sym, ap, ◌∙◌, subst}
use Rattle.mix_bits.specs.declared.isa.Isa.{Isa}
use Rattle.big_memory.specs.Lists.{part}
use Rattle.big_memory.specs.Memory.{Memory, floor_of}
use Rattle.big_memory.specs.StoresClauses.{OnlyFree}
use Rattle.host_heap.specs.Space.{Space}
use Rattle.switch_frame.specs.Chain.{Chain, cleared}
use Rattle.switch_frame.specs.Seen.{seen_by}
use Rattle.switch_frame.specs.Program.{HasGatePage, HasHeap, start_sp_of}
use Rattle.switch_frame.proofs.Gates.{page_by_bytes}
use Rattle.toolbox.specs.CallsClauses.{KeepsBounds}
use Rattle.mixed_machine.specs.declared.body.Body.{Body}
use Rattle.mixed_machine.specs.Machine.{IsWhole, callers_of, flat, memory_of}
use Rattle.mixed_machine.specs.inner.Machine.{seen_of}
use Rattle.switch_frame.specs.Calls.{IsOutermost, active_set}
use Rattle.mix_engine.specs.laws.Laws.{AreLaws}
use Rattle.mix_engine.specs.inner.Changes.{IsChanged}

-- the machine with other memory and another heap
abbrev pub altered : Body → Memory → Space → Body
altered b n h = record b { ram = n; heap = h }

-- its callers are as before
callers-same : AreLaws → (b : Body) (n : Memory) (h : Space) → Chain b.ram b.top (callers_of b) → OnlyFree b.ram n → callers_of (altered b n h) ≡ callers_of b
unfolding callers_of
callers-same laws b n h chain free = laws.reads_back n b.top (callers_of b) (laws.keeps b.ram n b.top (callers_of b) chain free).links

memory-same : AreLaws → (b : Body) (n : Memory) (h : Space) → callers_of (altered b n h) ≡ callers_of b → memory_of (altered b n h) ≡ cleared n.bytes (callers_of b)
unfolding memory_of
memory-same laws b n h callers = ap (cleared n.bytes) callers

memory-is : (b : Body) → memory_of b ≡ cleared b.ram.bytes (callers_of b)
unfolding memory_of
memory-is b = refl

-- the gate page stays
page-same : AreLaws → (b : Body) (n : Memory) (set : Isa) → IsWhole b set → OnlyFree b.ram n → HasGatePage b.a5 (cleared n.bytes (callers_of b))
page-same laws b n set whole free =
    let chain = laws.keeps b.ram n b.top (callers_of b) whole.chain free in
    let ram = whole.chain.links.ram in
    let least : 131072 ≤ length b.ram.bytes = ram.least in
    let long : length n.bytes ≡ length b.ram.bytes = free.long in
    let low_old : 0x1000 + 0x1000 ≤ floor_of b.ram = omega (arith, least) in
    let low_new : 0x1000 + 0x1000 ≤ floor_of n = omega (arith, least, long) in
    let old_long = laws.length b.ram b.top (callers_of b) whole.chain.links in
    let new_long = laws.length n b.top (callers_of b) chain.links in
    let longs : length (memory_of b) ≡ length (cleared n.bytes (callers_of b)) = ap length (memory-is b) ∙ (old_long ∙ (sym long ∙ sym new_long)) in
    let same : part 0x1000 0x1000 (cleared n.bytes (callers_of b)) ≡ part 0x1000 0x1000 (memory_of b) =
    laws.low n b.top (callers_of b) 0x1000 0x1000 chain.links low_new
    ∙ (laws.page b.ram n ram free
    ∙ (sym (laws.low b.ram b.top (callers_of b) 0x1000 0x1000 whole.chain.links low_old) ∙ ap (part 0x1000 0x1000) (sym (memory-is b)))) in
    page_by_bytes b.a5 (memory_of b) (cleared n.bytes (callers_of b)) same (sym longs) whole.page

heap-same : (b : Body) (n : Memory) (h : Space) → HasHeap b.heap.low b.heap.high b.ram → OnlyFree b.ram n → KeepsBounds b.heap h → HasHeap h.low h.high n
heap-same b n h has free bounds =
    let low : h.low ≡ b.heap.low = bounds.low in
    let high : h.high ≡ b.heap.high = bounds.high in
    let same : HasHeap b.heap.low b.heap.high n =
    record { aligned = has.aligned; behind = has.behind; ordered = has.ordered; whole = has.whole ∙ ap (λ l. l - l / 4) (sym free.long) } in
    subst (λ x. HasHeap h.low x n) (sym high) (subst (λ x. HasHeap x b.heap.high n) (sym low) same)

pub changed : AreLaws → (b : Body) (n : Memory) (h : Space) (set : Isa) → IsWhole b set → OnlyFree b.ram n → KeepsBounds b.heap h → IsChanged b (altered b n h) set
changed laws b n h set whole free bounds =
    let callers = callers-same laws b n h whole.chain free in
    let memory = memory-same laws b n h callers in
    record {
      whole = record {
        chain = subst (λ rs. Chain n b.top rs) (sym callers) (laws.keeps b.ram n b.top (callers_of b) whole.chain free);
        active = whole.active ∙ ap (active_set b.main) (sym callers);
        outermost = subst (λ rs. IsOutermost b.main rs) (sym callers) whole.outermost;
        page = subst (λ bytes. HasGatePage b.a5 bytes) (sym memory) (page-same laws b n set whole free);
        start = whole.start ∙ ap (start_sp_of b.main) (sym free.long);
        heap = heap-same b n h whole.heap free bounds;
      };
      callers = callers;
      state = λ before after around later. ap (λ m. record (flat b after later) { memory = m; callers = callers_of (altered b n h); heap = h }) memory
          ∙ ap (λ rs. record (flat b after later) { memory = cleared n.bytes (callers_of b); callers = rs; heap = h }) callers;
    }

-- what is seen of a whole machine is its RAM
pub seen-is : AreLaws → (b : Body) (set : Isa) → IsWhole b set → seen_of b ≡ b.ram
seen-is laws b set whole = ap (λ m. seen_by m (callers_of b)) (memory-is b) ∙ laws.sees b.ram b.top (callers_of b) whole.chain
