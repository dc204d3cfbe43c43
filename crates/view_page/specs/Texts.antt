-- Fixed texts of the page.
use Rattle.std.specs.Prelude.{ℕ, ◌++◌, List, codes}

-- how a page begins
unfoldable pub page_start : List ℕ
page_start = codes "<!DOCTYPE html><html lang=\"en\"><head><meta charset=\"utf-8\"><meta name=\"vie"
    ++ codes "wport\" content=\"width=device-width, initial-scale=1\"><meta http-equiv=\"Content-Se"
    ++ codes "curity-Policy\" content=\"default-src 'none'; style-src 'unsafe-inline'\"><title>Wher"
    ++ codes "e the time of loads goes</title><style>"

-- the colours of a page
unfoldable pub light_colours : List ℕ
light_colours = codes ":root{--bg:#fff;--fg:#1b1f24;--dim:#5b6570;--line:#d9dee3;--path:#c8500a;--p"
    ++ codes "ath2:#e8975f;--onpath:#fff;--off:#7896b4;--slk:#c3d8ea;--gain:#0a2540;--half:#fff;--w"
    ++ codes "ait:#8a929a;--waitbg:#f1f2f4;--head:#f6f7f9}"

-- the colours of a page in the dark
unfoldable pub dark_colours : List ℕ
dark_colours = codes "@media(prefers-color-scheme:dark){:root{--bg:#14171a;--fg:#e4e7ea;--dim:#9aa4"
    ++ codes "ae;--line:#343b42;--path:#f08b45;--path2:#b8743f;--onpath:#1a0d02;--off:#4d6a86;--slk"
    ++ codes ":#26394b;--gain:#1f5c96;--half:#fff;--wait:#7d8790;--waitbg:#22272c;--head:#1c2126}}"

-- how a page is set
unfoldable pub base_style : List ℕ
base_style = codes "*{box-sizing:border-box}body{margin:0 auto;max-width:1560px;padding:0 20px 60px"
    ++ codes ";background:var(--bg);color:var(--fg);font:14px/1.4 system-ui,\"Noto Sans\",\"DejaVu "
    ++ codes "Sans\",sans-serif}h1{font-size:20px;margin:14px 0 6px}h2{font-size:17px;margin:0 0 6p"
    ++ codes "x;padding-top:10px}section{border-top:1px solid var(--line);margin-top:22px}figure{ma"
    ++ codes "rgin:6px 0}figcaption,.note{color:var(--dim);font-size:12px}dl{display:flex;flex-wrap"
    ++ codes ":wrap;gap:6px 28px;margin:4px 0}dt{color:var(--dim);font-size:12px}dd{margin:0;font-s"
    ++ codes "ize:18px;font-variant-numeric:tabular-nums}.refused{border-left:4px solid var(--path)"
    ++ codes ";padding:2px 8px;margin:6px 0}"

-- how shapes are drawn
unfoldable pub shape_style : List ℕ
shape_style = codes "svg{display:block;overflow:hidden}svg text{font-size:11px;fill:var(--fg);white"
    ++ codes "-space:pre}svg.axis{overflow:visible}.strip{border-radius:3px}.path{fill:var(--path)}"
    ++ codes ".path2{fill:var(--path2);opacity:.6}.off{fill:var(--off)}.gain{fill:var(--gain)}.wait"
    ++ codes "{fill:url(#hatch)}.hbg{fill:var(--waitbg)}.hl{stroke:var(--wait);stroke-width:1.6}.sl"
    ++ codes "k{fill:var(--slk)}.half{stroke:var(--half);stroke-width:2}.strip rect{stroke:var(--bg"
    ++ codes ");stroke-width:1;paint-order:stroke}text.in{fill:var(--onpath)}.axis text{text-anchor"
    ++ codes ":middle;fill:var(--dim)}.axis text.first{text-anchor:start}.g rect.path{stroke:var(--"
    ++ codes "path);stroke-width:.8}.g rect.off{stroke:var(--off);stroke-width:.8}"

-- how tables are set
unfoldable pub table_style : List ℕ
table_style = codes "table{border-collapse:collapse;width:100%}td,th{padding:2px 6px;text-align:rig"
    ++ codes "ht;font-variant-numeric:tabular-nums;white-space:nowrap;font-weight:400}th{color:var("
    ++ codes "--dim);font-size:12px;vertical-align:bottom}td.n,th.n{text-align:left;width:34%;max-w"
    ++ codes "idth:0;overflow:hidden;text-overflow:ellipsis;white-space:pre}td.b,th.b{width:99%;tex"
    ++ codes "t-align:left;padding:2px 0}.ev{color:var(--dim);font-size:12px}tr.rest td{color:var(-"
    ++ codes "-dim)}tbody tr:hover{background:var(--head)}.others{columns:2;font-size:12px}.scroll{"
    ++ codes "overflow:auto;max-height:900px}"

-- how keys are drawn
unfoldable pub key_style : List ℕ
key_style = codes ".key{color:var(--dim);font-size:12px;margin:4px 0}.k{display:inline-block;width:"
    ++ codes "18px;height:10px;margin:0 5px 0 12px;vertical-align:-1px}.k.path{background:var(--pat"
    ++ codes "h)}.k.off{background:var(--off)}.k.gain,.k.half{background:var(--gain);border-top:2px"
    ++ codes " solid var(--path);border-bottom:2px solid var(--path)}.k.half{width:14px;background:"
    ++ codes "linear-gradient(90deg,var(--gain) 6px,var(--half) 6px 8px,var(--gain) 8px)}.k.slk{bac"
    ++ codes "kground:var(--slk);height:6px}.k.wait{background:repeating-linear-gradient(45deg,var("
    ++ codes "--wait) 0 1.5px,var(--waitbg) 1.5px 4px)}"

-- how lanes are set, and a page on a small screen and in print
unfoldable pub lane_style : List ℕ
lane_style = codes ".gantt{display:grid;grid-template-columns:minmax(90px,16%) 1fr;gap:0 8px}.names"
    ++ codes "{overflow:hidden}.axisgap{height:14px}.lane{height:22px;line-height:22px;text-align:r"
    ++ codes "ight;overflow:hidden;text-overflow:ellipsis;white-space:pre;font-size:12px}.lane.top{"
    ++ codes "font-weight:600}summary{cursor:pointer;padding:3px 0}.load{margin:4px 0 12px}@media(m"
    ++ codes "ax-width:1000px){bdi{white-space:pre-wrap}#slack .axis text:nth-child(even){display:n"
    ++ codes "one}td.n,th.n{white-space:normal;overflow-wrap:anywhere}.ev{display:block;font-size:1"
    ++ codes "1px;line-height:1.15}dl{gap:4px 18px}dd{font-size:16px}}@media print{body{max-width:n"
    ++ codes "one;font-size:10pt}.scroll{overflow:visible;max-height:none}tr,.gantt,figure{break-in"
    ++ codes "side:avoid}h2,summary{break-after:avoid}*{print-color-adjust:exact;-webkit-print-colo"
    ++ codes "r-adjust:exact}}"

-- how slack is drawn
unfoldable pub slack_style : List ℕ
slack_style = codes ".range{fill:var(--off);stroke:var(--off)}.box{fill:var(--off);stroke:var(--off"
    ++ codes ")}.med{stroke:var(--fg);stroke-width:2}.grid{stroke:var(--line);stroke-dasharray:2 3}"
    ++ codes ".k.range{background:var(--off);height:3px;vertical-align:3px}.k.box{background:var(--"
    ++ codes "off)}.k.med{background:var(--fg);width:2px;height:12px}td small{color:var(--dim)}"

-- how the matrix is drawn
unfoldable pub matrix_style : List ℕ
matrix_style = codes ".matrix text{font-size:10px}.dense text{font-size:8px}.dense>text:nth-of-type"
    ++ codes "(even){display:none}.ml{text-anchor:end}.mc{text-anchor:middle;fill:var(--dim)}.full,"
    ++ codes ".part{fill:var(--gain)}.excl{fill:none;stroke:var(--path);stroke-width:2}.over{fill:v"
    ++ codes "ar(--off)}.k.full,.k.part{background:var(--gain);width:12px;height:12px}.k.part{width"
    ++ codes ":7px;height:7px;vertical-align:1px}.k.excl{border:2px solid var(--path);width:8px;hei"
    ++ codes "ght:8px}.k.over{background:var(--off);width:4px;height:4px;vertical-align:3px}.pip{fi"
    ++ codes "ll:none;stroke:var(--path2);stroke-width:2}.k.pip{border:2px solid var(--path2);width"
    ++ codes ":12px;height:12px}"

-- how the graph is drawn
unfoldable pub graph_style : List ℕ
graph_style = codes ".bx{fill:var(--head);stroke:var(--off)}.gt{font-weight:600}.graph .ge{fill:va"
    ++ codes "r(--dim);font-size:10px}.hb{fill:none;stroke:var(--dim);stroke-width:1.1}.faint .hb{"
    ++ codes "stroke-opacity:.3}.ah{fill:var(--dim)}.mx{fill:none;stroke:var(--path);stroke-width:"
    ++ codes "2;stroke-dasharray:5 3}.pipe{fill:none;stroke:var(--off);stroke-width:4;opacity:.75}"
    ++ codes ".ahp{fill:var(--off)}.k.hb{border-top:2px solid var(--dim);height:0;vertical-align:4"
    ++ codes "px}.k.mx{border-top:2px dashed var(--path);height:0;vertical-align:4px}.k.pipe{borde"
    ++ codes "r-top:4px solid var(--off);height:0;vertical-align:3px}"

-- how the body of a page begins
unfoldable pub body_start : List ℕ
body_start = codes "</style></head><body><svg width=\"0\" height=\"0\" aria-hidden=\"true\"><defs><"
    ++ codes "pattern id=\"hatch\" width=\"5\" height=\"5\" patternUnits=\"userSpaceOnUse\" pattern"
    ++ codes "Transform=\"rotate(45)\"><rect class=\"hbg\" width=\"5\" height=\"5\"/><line class=\""
    ++ codes "hl\" x1=\"0\" x2=\"0\" y1=\"0\" y2=\"5\"/></pattern></defs></svg>"

-- how a page ends
unfoldable pub page_end : List ℕ
page_end = codes "</main></body></html>"

-- how cells are shaded, and how tables of three columns are set
unfoldable pub heat_style : List ℕ
heat_style = codes ":root{--h0:#f4f5f6;--h1:#fde9d9;--h2:#fbd3b4;--h3:#f6b388;--h4:#ee935d;--h5:#dd"
    ++ codes "7233;--h6:#c2550f;--h7:#9a3f05;--h8:#6f2b00}@media(prefers-color-scheme:dark){:root{-"
    ++ codes "-h0:#1c2024;--h1:#3a2617;--h2:#55331b;--h3:#74431f;--h4:#955524;--h5:#b8692b;--h6:#d9"
    ++ codes "8039;--h7:#f39c58;--h8:#ffc79a}}.h0{fill:var(--h0)}.h1{fill:var(--h1)}.h2{fill:var(--"
    ++ codes "h2)}.h3{fill:var(--h3)}.h4{fill:var(--h4)}.h5{fill:var(--h5)}.h6{fill:var(--h6)}.h7{f"
    ++ codes "ill:var(--h7)}.h8{fill:var(--h8)}.tailt td.n,.tailt th.n{width:27%}.tailt td.b,.tailt"
    ++ codes " th.b{width:28%}td.heat,th.heat{width:34%;text-align:left}.wit td.n,.wit th.n{width:5"
    ++ codes "5%;max-width:none;white-space:normal;overflow-wrap:anywhere}td.w,th.w{text-align:left"
    ++ codes ";white-space:normal;overflow-wrap:anywhere}"
