-- The disk at the start: blocks of metadata, then those of zeros, and the pages of the preset files one after another.
use Rattle.std.proofs.Common.{◌≡◌, ℕ, ◌==◌, ◌+◌, ◌-◌, ◌*◌, ◌<◌, ◌≤◌, List, [], ◌∷◌, ◌++◌, length, take, drop, slice_get, sum_by, nat_lt, option_map, ◌⊎◌, true, false, Some, None, refl, arith, subst, sym, inl, inr, ap, ◌∙◌}
use Rattle.std.specs.Prelude.{All, IfSome}
use Rattle.std.proofs.lemmas.Bool.{cond-true, cond-false, eq-eqb, ne_eqb, lt-ltb, le-ltb, cases_lt}
use Rattle.std.proofs.lemmas.List.{take_all}
use Rattle.std.proofs.lemmas.List.FromFn.{get_or-map-range_with_len}
use Rattle.std.proofs.lemmas.List.Sums.{sum_by-cons, sum_by_push, sum_by-take-le}
use Rattle.split_types.specs.declared.ids.ReqId.{ReqId}
use Rattle.split_types.specs.declared.ids.Serial.{Serial}
use Rattle.split_types.specs.declared.buf.Buf.{Buf}
use Rattle.split_types.specs.declared.buf.Buf.TheVariants.{Dir, Inode}
use Rattle.split_types.specs.declared.workload.Preset.{Preset}
use Rattle.split_types.specs.declared.workload.Workload.{Workload}
use Rattle.split_types.specs.Workloads.{first_block}
use Rattle.split_types.specs.IsWorkload.{least_device}
use Rattle.split_types.specs.PageBytes.{filled_page}
use Rattle.split_types.specs.DiskBytes.{layout_version, preset_fill, start_metadata, start_block}
use Rattle.split_types.specs.DiskLayout.{zeros, zero_block, super_block, IsSuper}
use Rattle.split_types.specs.LiveFiles.{file_at, metadata_block, slot_inode}
use Rattle.split_types.specs.FileSlots.{live_file, live_files, file_in_slot, metadata_bytes}
use Rattle.split_types.specs.Parents.{buffer_at}
use Rattle.split_types.specs.Accepted.{IsAccepted}
use Rattle.split_types.proofs.Shared.{take_at_some, data_from, start_data, case_true, case_false}
use Rattle.small_fs.specs.Files.{Files}
use Rattle.sim_disk.specs.Bytes.{filled, block_of, block_at}
use Rattle.sim_disk.specs.Sheet.{Overwrites}
use Rattle.sim_disk.specs.Medium as disk
use Rattle.sim_disk.specs.Medium.{InFlight, count_of, is_of, write_of}
use Rattle.split_core.specs.Filing.{FilesAre}
use Rattle.split_core.specs.Medium.{HasMetadata, IsStart}

-- ---- metadata
-- the superblock
pub super_is : (w : Workload) (version : ℕ) → IsAccepted w → version ≡ layout_version w → IsSuper version w.device
super_is w version accepted is = elim (cases_lt w.version 2) [
  | inl first ↦
      (let test = lt-ltb w.version 2 first
      in let one : version ≡ 1 = is ∙ cond-true (nat_lt w.version 2) 1 2 test
      in let least : least_device w ≡ 1024 = cond-true (nat_lt w.version 2) 1024 2048 test
      in record {
        known = inl one;
        first = λ same. omega (arith, least, accepted.workload.machine.device_least);
        second = λ two. absurd (omega (arith, one, two));
        most = accepted.workload.machine.device_most;
      })
  | inr second ↦
      (let test = le-ltb w.version 2 second
      in let two : version ≡ 2 = is ∙ cond-false (nat_lt w.version 2) 1 2 test
      in let least : least_device w ≡ 2048 = cond-false (nat_lt w.version 2) 1024 2048 test
      in record {
        known = inr two;
        first = λ one. absurd (omega (arith, one, two));
        second = λ same. omega (arith, least, accepted.workload.machine.device_least);
        most = accepted.workload.machine.device_most;
      })
]

pub super_start : (w : Workload) (x version : ℕ) (bytes : List ℕ) → x ≡ 0 → version ≡ layout_version w
    → bytes ≡ super_block version w.device → bytes ≡ start_metadata w x
super_start w x version bytes none is same =
    same ∙ ap (λ v. super_block v w.device) is ∙ ap (start_metadata w) (sym none)

-- the block of a buffer
not_first : (w : Workload) (x : ℕ) → 0 < x
    → start_metadata w x ≡ elim (nat_lt x 262) [ true ↦ metadata_bytes w [] (buffer_at x) | false ↦ zero_block ]
not_first w x some =
    case_false (x == 0) (super_block (layout_version w) w.device)
    (elim (nat_lt x 262) [ true ↦ metadata_bytes w [] (buffer_at x) | false ↦ zero_block ])
    (ne_eqb x 0 (λ e. omega arith))

start_within : (w : Workload) (x : ℕ) → 0 < x → x < 262 → start_metadata w x ≡ metadata_bytes w [] (buffer_at x)
start_within w x some within =
    not_first w x some
    ∙ case_true (nat_lt x 262) (metadata_bytes w [] (buffer_at x)) zero_block (lt-ltb x 262 within)

start_behind : (w : Workload) (x : ℕ) → 262 ≤ x → start_metadata w x ≡ zero_block
start_behind w x behind =
    not_first w x (omega arith)
    ∙ case_false (nat_lt x 262) (metadata_bytes w [] (buffer_at x)) zero_block (le-ltb x 262 behind)

pub dir_at : (x : ℕ) → 2 ≤ x → x < 6 → buffer_at x ≡ Dir (x - 2)
dir_at x low high =
    rw (ne_eqb x 1 (λ e. omega arith)) (cond-true (nat_lt x 6) (Dir (x - 2)) (Inode (record { 0 = x - 6 }))
    (lt-ltb x 6 high))

pub inode_at : (x : ℕ) → 6 ≤ x → buffer_at x ≡ Inode (record { 0 = x - 6 })
inode_at x low =
    rw (ne_eqb x 1 (λ e. omega arith)) (cond-false (nat_lt x 6) (Dir (x - 2)) (Inode (record { 0 = x - 6 }))
    (le-ltb x 6 low))

-- the image of a buffer is its block at the start
pub image_start : (w : Workload) (fs : Files) (x : ℕ) (b : Buf) (bytes : List ℕ) → FilesAre w fs [] → 0 < x → x < 262
    → buffer_at x ≡ b → bytes ≡ metadata_block fs.first fs.slots b → bytes ≡ start_metadata w x
image_start w fs x b bytes files some within is same =
    same ∙ ap (λ n. metadata_block n fs.slots b) files.first
    ∙ ap (λ s. metadata_block (first_block w) s b) files.slots
    ∙ ap (metadata_bytes w []) (sym is) ∙ sym (start_within w x some within)

-- what is written to a block alone
pub written_one : (old mid new : disk.Medium) (id : ReqId) (block : ℕ) (bytes : List ℕ) → length bytes ≡ 4096
    → old.writes ≡ []
    → mid.writes ≡ old.writes ++ record { id = id; first = block; bytes = bytes } ∷ []
    → mid.blocks ≡ old.blocks
    → IfSome (write_of mid.writes id) (λ v. Overwrites mid.blocks new.blocks v.first (count_of v) (block_of v.bytes))
    → Overwrites old.blocks new.blocks block 1 (λ i. bytes)
written_one old mid new id block bytes long none started same over = record {
  size = all.size ∙ ap length same;
  written = λ i below. all.written i (omega (arith, long, below)) ∙ (let zero : 4096 * i ≡ 0 = omega arith
      in ap (λ k. take 4096 (drop k bytes)) zero ∙ take_all 4096 bytes (omega (arith, long)));
  others = λ b out. all.others b (apart b out) ∙ ap (λ l. block_at l b) same;
}
  where
    own : InFlight
    own = record { id = id; first = block; bytes = bytes }

    found : write_of mid.writes id ≡ Some own
    found =
        ap (λ l. write_of l id) (started ∙ ap (λ l. l ++ own ∷ []) none)
        ∙ cond-true (is_of id own) (Some own) None (eq-eqb id.0 id.0 refl)

    all : Overwrites mid.blocks new.blocks block (count_of own) (block_of bytes)
    all =
        subst (λ o. IfSome o (λ v. Overwrites mid.blocks new.blocks v.first (count_of v) (block_of v.bytes)))
        found over

    apart : (b : ℕ) → (b < block) ⊎ (block + 1 ≤ b) → (b < block) ⊎ (block + count_of own ≤ b)
    apart b (inl before) = inl before
    apart b (inr behind) = inr (omega (arith, behind, long))

-- a disk of zeros
pub zeros_are : (w : Workload) (d : disk.Medium) → length d.blocks ≡ w.device → d.writes ≡ []
    → All (λ bytes. bytes ≡ filled 0) d.blocks → HasMetadata w d 0
zeros_are w d size writes zeros = record {
  size = size;
  writes = writes;
  metadata = λ x below. absurd (omega arith);
  zeros = λ x low high. zeros x [] (omega (arith, size, high));
}

-- the next block is written
pub metadata_next : (w : Workload) (d new : disk.Medium) (block : ℕ) (bytes : List ℕ) → HasMetadata w d block
    → bytes ≡ start_metadata w block → Overwrites d.blocks new.blocks block 1 (λ i. bytes) → new.writes ≡ []
    → HasMetadata w new (block + 1)
metadata_next w d new block bytes has is over writes = record {
  size = over.size ∙ has.size;
  writes = writes;
  metadata = λ x below. elim (cases_lt x block) [
    | inl before ↦ over.others x (inl before) ∙ has.metadata x before
    | inr from ↦
        (let same : x ≡ block + 0 = omega arith
        in let one : block ≡ x = omega arith
        in ap (block_at new.blocks) same ∙ over.written 0 (omega arith) ∙ is ∙ ap (start_metadata w) one)
  ];
  zeros = λ x low high. over.others x (inr low) ∙ has.zeros x (omega arith) high;
}

-- the inode of a slot without a file, and each block behind the metadata up to the first block of data, are zeros
free_at : (w : Workload) (k : ℕ) → length w.files ≤ k → k < 256 → file_at (live_files w []) k ≡ None
free_at w k free below =
    get_or-map-range_with_len (λ i. option_map (live_file w []) (file_in_slot w [] i)) 0 256 k k None below (omega arith)
    ∙ ap (option_map (live_file w [])) none
  where
    file : Serial
    file = record { 0 = k }

    none : file_in_slot w [] k ≡ None
    none = cond-false (nat_lt k (length w.files)) (Some file) None (le-ltb k (length w.files) free)

zero_is : zero_block ≡ filled 0
unfolding zero_block zeros filled
zero_is = refl

metadata_free : (w : Workload) (x : ℕ) → 6 + length w.files ≤ x → start_metadata w x ≡ zero_block
metadata_free w x from = elim (cases_lt x 262) [
  | inr behind ↦ start_behind w x behind
  | inl within ↦
      start_within w x (omega arith) within ∙ ap (metadata_bytes w []) (inode_at x (omega arith))
      ∙ ap slot_inode (free_at w (x - 6) (omega arith) (omega arith))
]

pub metadata_all : (w : Workload) (d : disk.Medium) (n : ℕ) → IsAccepted w → HasMetadata w d n
    → n ≡ 6 + length w.files → HasMetadata w d (first_block w)
metadata_all w d n accepted has all = record {
  size = has.size;
  writes = has.writes;
  metadata = λ x below. elim (cases_lt x n) [
    | inl before ↦ has.metadata x before
    | inr from ↦
        has.zeros x from (omega (arith, accepted.workload.presets.fit)) ∙ sym zero_is
        ∙ sym (metadata_free w x (omega (arith, all, from)))
  ];
  zeros = λ x low high.
      has.zeros x (omega (arith, all, low, data_from w, accepted.workload.presets.few)) high;
}

-- the number of pages of these files
abbrev pub pages_of_files : List Preset → ℕ
pages_of_files files = sum_by (λ (f : Preset). f.pages) files

-- ---- the byte of a page, where there is one file more
fill_other : (files : List Preset) (f : Preset) (i : ℕ)
    → (i < pages_of_files files) ⊎ (pages_of_files files + f.pages ≤ i)
    → preset_fill (files ++ f ∷ []) i ≡ preset_fill files i
fill_other [] f i (inl before) = absurd (omega arith)
fill_other [] f i (inr behind) =
    cond-false (nat_lt i f.pages) f.fill (preset_fill [] (i - f.pages)) (le-ltb i f.pages (omega arith))
fill_other (p ∷ files) f i where_is = elim (cases_lt i p.pages) [
  | inl first ↦
      cond-true (nat_lt i p.pages) p.fill (preset_fill (files ++ f ∷ []) (i - p.pages)) (lt-ltb i p.pages first)
      ∙ sym (cond-true (nat_lt i p.pages) p.fill (preset_fill files (i - p.pages)) (lt-ltb i p.pages first))
  | inr past ↦
      cond-false (nat_lt i p.pages) p.fill (preset_fill (files ++ f ∷ []) (i - p.pages)) (le-ltb i p.pages past)
      ∙ fill_other files f (i - p.pages) (later past where_is)
      ∙ sym (cond-false (nat_lt i p.pages) p.fill (preset_fill files (i - p.pages)) (le-ltb i p.pages past))
]
  where
    later : p.pages ≤ i → (i < pages_of_files (p ∷ files)) ⊎ (pages_of_files (p ∷ files) + f.pages ≤ i)
        → (i - p.pages < pages_of_files files) ⊎ (pages_of_files files + f.pages ≤ i - p.pages)
    later past (inl before) = inl (omega (arith, sum_by-cons (λ (x : Preset). x.pages) p files))
    later past (inr behind) = inr (omega (arith, sum_by-cons (λ (x : Preset). x.pages) p files))

fill_here : (files : List Preset) (f : Preset) (i : ℕ) → pages_of_files files ≤ i → i < pages_of_files files + f.pages
    → preset_fill (files ++ f ∷ []) i ≡ f.fill
fill_here [] f i low high =
    cond-true (nat_lt i f.pages) f.fill (preset_fill [] (i - f.pages)) (lt-ltb i f.pages (omega arith))
fill_here (p ∷ files) f i low high =
    let sum = sum_by-cons (λ (x : Preset). x.pages) p files
    in cond-false (nat_lt i p.pages) p.fill (preset_fill (files ++ f ∷ []) (i - p.pages))
    (le-ltb i p.pages (omega (arith, sum)))
    ∙ fill_here files f (i - p.pages) (omega (arith, sum)) (omega (arith, sum))

-- ---- the disk with the pages of the first files
pub record IsFilledTo (w : Workload) (d : disk.Medium) (block n : ℕ) : Type 0 where
  pub size : length d.blocks ≡ w.device
  pub writes : d.writes ≡ []
  pub block_is : block ≡ first_block w + pages_of_files (take n w.files)
  pub metadata : (x : ℕ) → x < first_block w → block_at d.blocks x ≡ start_metadata w x
  pub blocks : (x : ℕ) → first_block w ≤ x → x < w.device
      → block_at d.blocks x ≡ filled (preset_fill (take n w.files) (x - first_block w))

pub filled_none : (w : Workload) (d : disk.Medium) (block : ℕ) → HasMetadata w d (first_block w)
    → block ≡ first_block w → IsFilledTo w d block 0
filled_none w d block has is = record {
  size = has.size;
  writes = has.writes;
  block_is = omega (arith, is);
  metadata = has.metadata;
  blocks = λ x low high. has.zeros x low high;
}

-- the next file ends within the disk
pub next_within : (w : Workload) (d : disk.Medium) (block n : ℕ) (f : Preset) → IsAccepted w → IsFilledTo w d block n
    → slice_get w.files n ≡ Some f → block + f.pages ≤ w.device
next_within w d block n f accepted to at =
    let more : take (n + 1) w.files ≡ take n w.files ++ f ∷ [] = take_at_some w.files n f at
    in omega (
      arith,
      to.block_is,
      ap pages_of_files more,
      sum_by_push (λ (x : Preset). x.pages) (take n w.files) f,
      sum_by-take-le (λ (x : Preset). x.pages) w.files (n + 1),
      accepted.workload.presets.fit,
    )

pub filled_next : (w : Workload) (d new : disk.Medium) (block n : ℕ) (f : Preset) → IsFilledTo w d block n
    → slice_get w.files n ≡ Some f → Overwrites d.blocks new.blocks block f.pages (λ i. filled f.fill)
    → new.writes ≡ d.writes → IsFilledTo w new (block + f.pages) (n + 1)
filled_next w d new block n f to at over same = record {
  size = over.size ∙ to.size;
  writes = same ∙ to.writes;
  block_is =
      omega (
        arith,
        to.block_is,
        ap pages_of_files more,
        sum_by_push (λ (x : Preset). x.pages) (take n w.files) f,
      );
  metadata = λ x below. over.others x (inl (omega (arith, to.block_is, below))) ∙ to.metadata x below;
  blocks = λ x low high. elim (cases_lt x block) [
    | inl before ↦
        over.others x (inl before) ∙ to.blocks x low high
        ∙ sym (now x (fill_other (take n w.files) f (x - first_block w) (inl (omega (arith, to.block_is)))))
    | inr from ↦ elim (cases_lt x (block + f.pages)) [
      | inl under ↦
          (let i : ℕ = x - block
          in let place : x ≡ block + i = omega arith
          in let below : i < f.pages = omega arith
          in ap (block_at new.blocks) place ∙ over.written i below
          ∙ sym (now_is x (fill_here (take n w.files) f (x - first_block w) (omega (arith, to.block_is))
          (omega (arith, to.block_is)))))
      | inr behind ↦
          over.others x (inr behind) ∙ to.blocks x low high
          ∙ sym (now x (fill_other (take n w.files) f (x - first_block w) (inr (omega (arith, to.block_is)))))
    ]
  ];
}
  where
    more : take (n + 1) w.files ≡ take n w.files ++ f ∷ []
    more = take_at_some w.files n f at

    now : (x : ℕ)
        → preset_fill (take n w.files ++ f ∷ []) (x - first_block w)
        ≡ preset_fill (take n w.files) (x - first_block w)
        → filled (preset_fill (take (n + 1) w.files) (x - first_block w))
        ≡ filled (preset_fill (take n w.files) (x - first_block w))
    now x is = ap (λ l. filled (preset_fill l (x - first_block w))) more ∙ ap filled is

    now_is : (x : ℕ) → preset_fill (take n w.files ++ f ∷ []) (x - first_block w) ≡ f.fill
        → filled (preset_fill (take (n + 1) w.files) (x - first_block w)) ≡ filled f.fill
    now_is x is = ap (λ l. filled (preset_fill l (x - first_block w))) more ∙ ap filled is

-- ---- the disk with all of them
same_filled : (byte : ℕ) → filled byte ≡ filled_page byte
unfolding filled filled_page
same_filled byte = refl

pub all_filled : (w : Workload) (d : disk.Medium) (block n : ℕ) → IsFilledTo w d block n → length w.files ≤ n
    → IsStart w d
all_filled w d block n to all = record {
  size = to.size;
  blocks = λ x high. elim (cases_lt x (first_block w)) [
    | inl before ↦ to.metadata x before ∙ sym (start_before w x before)
    | inr from ↦
        to.blocks x from high
        ∙ ap (λ l. filled (preset_fill l (x - first_block w))) (take_all n w.files all)
        ∙ same_filled (preset_fill w.files (x - first_block w)) ∙ sym (start_data w x from)
  ];
  writes = to.writes;
}
  where
    start_before : (w : Workload) (x : ℕ) → x < first_block w → start_block w x ≡ start_metadata w x
    start_before w x before =
        case_true (nat_lt x (first_block w)) (start_metadata w x)
        (filled_page (preset_fill w.files (x - first_block w))) (lt-ltb x (first_block w) before)
